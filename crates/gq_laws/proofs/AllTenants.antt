-- What a tenant sees of a run of all tenants, and is told there, is its run by itself.
use Rattle.std.proofs.Common.{◌≡◌, ◌≢◌, ◌⊎◌, ℕ, zero, suc, ◌+◌, ◌<◌, ◌≤◌, ◌++◌, List, [], ◌∷◌, map, refl, sym, ap, ◌∙◌, subst, inl, inr, Option, Some, None, arith}
use Rattle.std.specs.Prelude.{fold}
use Rattle.std.specs.List.{cons_option}
use Rattle.std.proofs.lemmas.Bool.{cases_eq, eq-eqb, ne_eqb}
use Rattle.std.proofs.lemmas.List.Elements.{filter_map-append}
use Rattle.std.proofs.lemmas.List.Sums.{fold-append}
use Rattle.gq_grid.specs.Grid.{Grid}
use Rattle.gq_tag.specs.Tag.{File}
use Rattle.gq_desk.specs.CheckedPlan.{CheckedPlan, nobody, row_at}
use Rattle.gq_desk.specs.declared.plans.TenantRow.{TenantRow}
use Rattle.gq_model.specs.declared.events.Event.{Event}
use Rattle.gq_model.specs.declared.events.Event.TheVariants.{Tenant, Server, Stray}
use Rattle.gq_model.specs.Trace.{Turn, Own, Serving, Past, start}
use Rattle.gq_model.specs.Lone.{after, said, told_from}
use Rattle.gq_model.specs.Events.{turn_of, own, server_lines, past_at, server_past, answer_to}
use Rattle.gq_laws.specs.declared.ops.Op.{Op}
use Rattle.gq_laws.specs.Operations.{Answered, answered_from, operations, Tagged}
use Rattle.gq_laws.specs.Laws.{IsRising, lone_operations}
use Rattle.gq_laws.specs.Tenants.{answers_from, seen_from, tenant_operations, AllTenantsTagged}
use Rattle.gq_laws.proofs.Acts.{SameServers, servers_own, servers_serving, said_serving}
use Rattle.gq_laws.proofs.AllTagged.{all_tagged}
use Rattle.gq_laws.proofs.OtherPlaces.{moved_turn, moved_op, operations-moved, tagged-moved}

-- ---- the servers that are up, and those that are gone, are those that the server lines leave

servers_from : (grid : Grid) (row : TenantRow) (t : ℕ) (events : List Event) (p q : Past) → SameServers p.trace q.trace → SameServers (fold (after grid row) p (own t events)).trace (fold (after grid nobody) q (server_lines events)).trace
servers_from grid row t [] p q same = same
servers_from grid row t (Tenant u line ∷ events) p q same = go (cases_eq u t) (λ p'. servers_from grid row t events p' q)
  where
    go : (u ≡ t) ⊎ (u ≢ t) → ((p' : Past) → SameServers p'.trace q.trace → SameServers (fold (after grid row) p' (own t events)).trace (fold (after grid nobody) q (server_lines events)).trace) →
        SameServers (fold (after grid row) p (own t (Tenant u line ∷ events))).trace (fold (after grid nobody) q (server_lines events)).trace
    go (inl e) later =
        let own = servers_own grid row p line in
        rw (eq-eqb u t e) (later (after grid row p (Own line)) (record { up = own.up ∙ same.up; gone = own.gone ∙ same.gone }))
    go (inr ne) later = rw (ne_eqb u t ne) (later p same)
servers_from grid row t (Server line ∷ events) p q same =
    servers_from grid row t events (after grid row p (Serving line)) (after grid nobody q (Serving line))
    (servers_serving grid row nobody p q line same)
servers_from grid row t (Stray ∷ events) p q same = servers_from grid row t events p q same

pub servers_same : (plan : CheckedPlan) (t : ℕ) (events : List Event) → SameServers (past_at plan t events).trace (server_past plan events).trace
servers_same plan t events = servers_from plan.grid (row_at plan t) t events start start (record { up = refl; gone = refl })

-- ---- what is told

told_same : (plan : CheckedPlan) (t : ℕ) (before : List Event) (event : Event) (turn : Turn) → turn_of t event ≡ Some turn → answer_to plan before event ≡ said plan.grid (row_at plan t) (past_at plan t before) turn
told_same plan t before (Tenant u line) turn sees = go (cases_eq u t)
  where
    go : (u ≡ t) ⊎ (u ≢ t) → answer_to plan before (Tenant u line) ≡ said plan.grid (row_at plan t) (past_at plan t before) turn
    go (inl e) =
        let both : Some (Own line) ≡ Some turn = rw (eq-eqb u t e) at sees in
        let same : Own line ≡ turn = cc in
        ap (λ z. answer_to plan before (Tenant z line)) e ∙ ap (said plan.grid (row_at plan t) (past_at plan t before)) same
    go (inr ne) = absurd (let bad : None ≡ Some turn = rw (ne_eqb u t ne) at sees in cc)
told_same plan t before (Server line) turn sees =
    let both : Some (Serving line) ≡ Some turn = sees in
    let same : Serving line ≡ turn = cc in
    sym (said_serving plan.grid (row_at plan t) nobody (past_at plan t before) (server_past plan before) line (servers_same plan t before)) ∙ ap (said plan.grid (row_at plan t) (past_at plan t before)) same
told_same plan t before Stray turn sees = absurd (let bad : None ≡ Some turn = sees in cc)

-- the past after one event more
pub past_more : (plan : CheckedPlan) (t : ℕ) (before : List Event) (event : Event) (turn : Option Turn) → turn_of t event ≡ turn → past_at plan t (before ++ event ∷ []) ≡ fold (after plan.grid (row_at plan t)) (past_at plan t before) (cons_option turn [])
past_more plan t before event turn is =
    rw (filter_map-append (turn_of t) before (event ∷ []), is)
    (fold-append (after plan.grid (row_at plan t)) start (own t before) (cons_option turn []))

-- ---- the places of what a tenant sees

-- the place of the i-th event that the tenant sees, the first event being at place n; past the last one, some later place
abbrev pub place_from : ℕ → Option Turn → (ℕ → ℕ) → ℕ → ℕ
place_from n None later i = later i
place_from n (Some turn) later zero = n
place_from n (Some turn) later (suc i) = later i

-- the same over all events from place n on
abbrev pub place_in_all : ℕ → ℕ → List Event → ℕ → ℕ
place_in_all t n [] = λ i. n + i
place_in_all t n (event ∷ events) = place_from n (turn_of t event) (place_in_all t (n + 1) events)

place_low : (t n : ℕ) (events : List Event) (i : ℕ) → n ≤ place_in_all t n events i
place_low t n [] i = omega arith
place_low t n (event ∷ events) i = go (turn_of t event) i (place_low t (n + 1) events)
  where
    go : (turn : Option Turn) (i : ℕ) → ((i : ℕ) → n + 1 ≤ place_in_all t (n + 1) events i) → n ≤ place_from n turn (place_in_all t (n + 1) events) i
    go None i low = omega (arith, low i)
    go (Some turn) zero low = omega arith
    go (Some turn) (suc i) low = omega (arith, low i)

pub place_rises : (t n : ℕ) (events : List Event) → IsRising (place_in_all t n events)
place_rises t n [] i j less = omega arith
place_rises t n (event ∷ events) i j less = go (turn_of t event) i j less (place_rises t (n + 1) events)
  where
    go : (turn : Option Turn) (i j : ℕ) → i < j → IsRising (place_in_all t (n + 1) events) → place_from n turn (place_in_all t (n + 1) events) i < place_from n turn (place_in_all t (n + 1) events) j
    go None i j less rises = rises i j less
    go (Some turn) i zero less rises = absurd (omega arith)
    go (Some turn) zero (suc j) less rises = let low = place_low t (n + 1) events j in omega arith
    go (Some turn) (suc i) (suc j) less rises = rises i j (omega arith)

-- ---- what it sees

seen_is : (plan : CheckedPlan) (t : ℕ) (events before : List Event) (n m : ℕ) (g : ℕ → ℕ) → ((i : ℕ) → g (m + i) ≡ place_in_all t n events i) →
    seen_from t n events (answers_from plan before events) ≡ map (moved_turn g) (answered_from m (own t events) (told_from plan.grid (row_at plan t) (past_at plan t before) (own t events)))
seen_is plan t [] before n m g at = refl
seen_is plan t (event ∷ events) before n m g at = by (turn_of t event) refl (seen_is plan t events (before ++ event ∷ []) (n + 1))
  where
    row : TenantRow
    row = row_at plan t

    p : Past
    p = past_at plan t before

    turns : List Turn
    turns = own t events

    tail : Past → ℕ → List Answered
    tail q m' = map (moved_turn g) (answered_from m' turns (told_from plan.grid row q turns))

    Later : Type 0
    Later = (m : ℕ) (g : ℕ → ℕ) → ((i : ℕ) → g (m + i) ≡ place_in_all t (n + 1) events i) →
        seen_from t (n + 1) events (answers_from plan (before ++ event ∷ []) events) ≡ map (moved_turn g) (answered_from m turns (told_from plan.grid row (past_at plan t (before ++ event ∷ [])) turns))

    by : (turn : Option Turn) → turn_of t event ≡ turn → Later →
        seen_from t n (event ∷ events) (answers_from plan before (event ∷ events)) ≡ map (moved_turn g) (answered_from m (own t (event ∷ events)) (told_from plan.grid row p (own t (event ∷ events))))
    by None sees later =
        let here : (i : ℕ) → g (m + i) ≡ place_in_all t (n + 1) events i = λ i. at i ∙ ap (λ z. place_from n z (place_in_all t (n + 1) events) i) sees in
        rw sees (later m g here ∙ ap (λ q. tail q m) (past_more plan t before event None sees))
    by (Some turn) sees later =
        let here : (i : ℕ) → g (m + 1 + i) ≡ place_in_all t (n + 1) events i = λ i. ap g (next m i) ∙ at (suc i) ∙ ap (λ z. place_from n z (place_in_all t (n + 1) events) (suc i)) sees in
        let first : n ≡ g m = sym (ap g (none m) ∙ at 0 ∙ ap (λ z. place_from n z (place_in_all t (n + 1) events) 0) sees) in
        let same : answer_to plan before event ≡ said plan.grid row p turn = told_same plan t before event turn sees in
        let rest : seen_from t (n + 1) events (answers_from plan (before ++ event ∷ []) events) ≡ tail (after plan.grid row p turn) (m + 1) = later (m + 1) g here ∙ ap (λ q. tail q (m + 1)) (past_more plan t before event (Some turn) sees) in
        rw sees (λ i. record { place = first i; turn = turn; told = same i } ∷ rest i)
      where
        next : (m i : ℕ) → m + 1 + i ≡ m + suc i
        next m i = omega arith

        none : (m : ℕ) → m ≡ m + 0
        none m = omega arith

-- the operations of a tenant are those of its run by itself, at the places of what it sees
pub operations_alone : (plan : CheckedPlan) (events : List Event) (t : ℕ) (file : File) → tenant_operations plan events t file ≡ map (moved_op (place_in_all t 0 events)) (lone_operations plan.grid (row_at plan t) (own t events) file)
operations_alone plan events t file =
    let f : ℕ → ℕ = place_in_all t 0 events in
    ap (λ z. operations z file) (seen_is plan t events [] 0 0 f (λ i. ap f (zero_more i)))
    ∙ operations-moved f (answered_from 0 (own t events) (told_from plan.grid (row_at plan t) start (own t events))) file
  where
    zero_more : (i : ℕ) → 0 + i ≡ i
    zero_more i = omega arith

pub all_tenants_tagged : AllTenantsTagged
all_tenants_tagged plan events t file =
    let P : List Op → Type 0 = λ z. Tagged z in
    subst P (sym (operations_alone plan events t file))
    (tagged-moved (place_in_all t 0 events) (place_rises t 0 events) (lone_operations plan.grid (row_at plan t) (own t events) file) (all_tagged plan.grid (row_at plan t) (own t events) file))
