-- The worked case, up to the writes: three nodes are lost at one place, and replaced. The words on quorums are opened here to compute.
use Rattle.std.proofs.Common.{◌≡◌, ◌∙◌, ℕ, zero, suc, ◌<◌, List, [], ◌∷◌, ◌++◌, refl, sym, ap, subst, arith}
use Rattle.std.specs.Prelude.{⊤, codes}
use Rattle.std.proofs.lemmas.List.Sums.{fold-append}
use Rattle.gq_tag.specs.Tag.{first_copy}
use Rattle.gq_phase.specs.Quorums.{collect_quorum, store_quorum, ends_collect, ends_store, are_peers}
use Rattle.gq_text.specs.Canonical.{IsPlan}
use Rattle.gq_lines.specs.Words.{number_up_to}
use Rattle.gq_replace.specs.Plans.{IsChain}
use Rattle.gq_node.specs.declared.output.Transfer.TheVariants.{Wants, Brings}
use Rattle.gq_node.specs.Nodes.{NodeWorld, Nodes, Event, Started, after_event, nodes_after, new_nodes, CanCome}
use Rattle.gq_wire.specs.declared.incoming.Incoming.{Incoming}
use Rattle.gq_wire.specs.declared.incoming.Incoming.TheVariants.{Joins, Joined, Fetch, Fetched, Tick}
use Rattle.gq_wire.specs.Incoming.{incoming_of, incoming_of_words}
use Rattle.gq_wire.proofs.TransfersBack.{transfers_read_back, joins_read_back}
use Rattle.gq_parts.specs.AllNodes.{GridPlans, plans_of, world_at, AreSound, Happening, came_events, events_of, events_from, IncomingCanCome, HappeningCanCome, LinesCanCome}
use Rattle.gq_parts.specs.Within.{within, hops}
use Rattle.gq_parts.specs.Worked.{lost_by, grid_worked, Sent, Starting, Sends, happened, all_happened, file_worked, replaced_by, losses_worked}

-- ---- the plans

pub is_plan : IsPlan grid_worked.plan
is_plan = record { rows = refl; cols = refl; sound = record { some = omega arith; few = omega arith; least = omega arith; bound = omega arith; named = refl; within = omega arith; fault = refl } }

is_chain : (t : ℕ) → IsChain (plans_of grid_worked t)
is_chain t zero j low = record { more = lost_by j; lost = refl; volumes = omega arith }
is_chain t (suc i) zero low = absurd (omega arith)
is_chain t (suc zero) (suc zero) low = record { more = []; lost = refl; volumes = omega arith }
is_chain t (suc zero) (suc (suc zero)) low = record { more = 1 ∷ []; lost = refl; volumes = omega arith }
is_chain t (suc zero) (suc (suc (suc j))) low = record { more = 1 ∷ 1 ∷ []; lost = refl; volumes = omega arith }
is_chain t (suc (suc i)) (suc zero) low = absurd (omega arith)
is_chain t (suc (suc zero)) (suc (suc zero)) low = record { more = []; lost = refl; volumes = omega arith }
is_chain t (suc (suc zero)) (suc (suc (suc j))) low = record { more = 1 ∷ []; lost = refl; volumes = omega arith }
is_chain t (suc (suc (suc i))) (suc (suc zero)) low = absurd (omega arith)
is_chain t (suc (suc (suc i))) (suc (suc (suc j))) low = record { more = []; lost = refl; volumes = omega arith }

pub plans_sound : AreSound grid_worked
plans_sound = record { plan = is_plan; servers = omega arith; chain = is_chain; opened = λ p t. omega arith }

-- ---- lines, and what they are to their nodes

-- a node is started, or is sent that
pub data Known : Type 0 where
  Begun : (node plan : ℕ) → Known
  Gets : (node plan : ℕ) (incoming : Incoming) → Known

abbrev pub IsRead : GridPlans → Sent → Known → Type 0
IsRead g (Starting n p) (Begun m q) = (n ≡ m) × (p ≡ q)
IsRead g (Sends n p line) (Gets m q incoming) = (n ≡ m) × (p ≡ q) × (incoming_of g.plan n line ≡ incoming)
IsRead g _ _ = ⊥

abbrev pub AreRead : GridPlans → List Sent → List Known → Type 0
AreRead g [] [] = ⊤
AreRead g (s ∷ sent) (k ∷ known) = IsRead g s k × AreRead g sent known
AreRead g _ _ = ⊥

-- the events of it for the tenant at place t
abbrev pub known_events : GridPlans → (t : ℕ) → Nodes → Known → List Event
known_events g t nodes (Begun n p) = Started n p ∷ []
known_events g t nodes (Gets n p incoming) = came_events g p n [] t nodes incoming

abbrev pub known_after : GridPlans → (t : ℕ) → Nodes → List Known → Nodes
known_after g t nodes [] = nodes
known_after g t nodes (k ∷ known) = known_after g t (nodes_after (world_at g t) nodes (known_events g t nodes k)) known

abbrev pub KnownCan : GridPlans → (t : ℕ) → Nodes → Known → Type 0
KnownCan g t nodes (Begun n p) = CanCome (world_at g t) nodes (Started n p)
KnownCan g t nodes (Gets n p incoming) = IncomingCanCome g p n [] t nodes incoming

abbrev pub AllKnownCan : GridPlans → (t : ℕ) → Nodes → List Known → Type 0
AllKnownCan g t nodes [] = ⊤
AllKnownCan g t nodes (k ∷ known) = KnownCan g t nodes k × AllKnownCan g t (nodes_after (world_at g t) nodes (known_events g t nodes k)) known

same_events : (g : GridPlans) (t : ℕ) (nodes : Nodes) (before : List Happening) (s : Sent) (k : Known) → IsRead g s k → events_of g t nodes (happened g before s) ≡ known_events g t nodes k
same_events g t nodes before (Starting n p) (Begun m q) read = λ i. Started (read.0 i) (read.1 i) ∷ []
same_events g t nodes before (Sends n p line) (Gets m q incoming) read = λ i. came_events g (read.1 i) (read.0 i) [] t nodes (read.2 i)
same_events g t nodes before (Starting n p) (Gets m q incoming) read = absurd read
same_events g t nodes before (Sends n p line) (Begun m q) read = absurd read

same_can : (g : GridPlans) (t : ℕ) (nodes : Nodes) (before : List Happening) (s : Sent) (k : Known) → IsRead g s k → KnownCan g t nodes k → HappeningCanCome g t nodes (happened g before s)
same_can g t nodes before (Starting n p) (Begun m q) read can = let P : ℕ → ℕ → Type 0 = λ n p. CanCome (world_at g t) nodes (Started n p) in subst (λ x. P x p) (sym read.0) (subst (P m) (sym read.1) can)
same_can g t nodes before (Sends n p line) (Gets m q incoming) read can =
    subst (λ x. IncomingCanCome g p x [] t nodes (incoming_of g.plan n line)) (sym read.0)
    (subst (λ x. IncomingCanCome g x m [] t nodes (incoming_of g.plan n line)) (sym read.1) (subst (IncomingCanCome g q m [] t nodes) (sym read.2) can))
same_can g t nodes before (Starting n p) (Gets m q incoming) read can = absurd read
same_can g t nodes before (Sends n p line) (Begun m q) read can = absurd read

-- what can come so can come as lines
pub lines_can : (g : GridPlans) (t : ℕ) (sent : List Sent) (known : List Known) (nodes : Nodes) (before : List Happening) → AreRead g sent known → AllKnownCan g t nodes known → LinesCanCome g t nodes (all_happened g before sent)
lines_can g t [] [] nodes before read can = tt
lines_can g t (s ∷ sent) (k ∷ known) nodes before read can =
    let P : List Event → Type 0 = λ events. LinesCanCome g t (nodes_after (world_at g t) nodes events) (all_happened g (before ++ happened g before s ∷ []) sent) in
    (same_can g t nodes before s k read.0 can.0, subst P (sym (same_events g t nodes before s k read.0)) (lines_can g t sent known (nodes_after (world_at g t) nodes (known_events g t nodes k)) (before ++ happened g before s ∷ []) read.1 can.1))
lines_can g t [] (k ∷ known) nodes before read can = absurd read
lines_can g t (s ∷ sent) [] nodes before read can = absurd read

-- and leaves these nodes
pub lines_after : (g : GridPlans) (t : ℕ) (sent : List Sent) (known : List Known) (nodes : Nodes) (before : List Happening) → AreRead g sent known →
    nodes_after (world_at g t) nodes (events_from g t nodes (all_happened g before sent)) ≡ known_after g t nodes known
lines_after g t [] [] nodes before read = refl
lines_after g t (s ∷ sent) (k ∷ known) nodes before read =
    let w : NodeWorld = world_at g t in
    let h : Happening = happened g before s in
    let one : List Event = events_of g t nodes h in
    let rest : Nodes → List Event = λ next. events_from g t next (all_happened g (before ++ h ∷ []) sent) in
    fold-append (after_event w) nodes one (rest (nodes_after w nodes one))
    ∙ ap (λ events. nodes_after w (nodes_after w nodes events) (rest (nodes_after w nodes events))) (same_events g t nodes before s k read.0)
    ∙ lines_after g t sent known (nodes_after w nodes (known_events g t nodes k)) (before ++ h ∷ []) read.1
lines_after g t [] (k ∷ known) nodes before read = absurd read
lines_after g t (s ∷ sent) [] nodes before read = absurd read

-- one list behind another
pub read_append : (g : GridPlans) (xs : List Sent) (ks : List Known) (ys : List Sent) (js : List Known) → AreRead g xs ks → AreRead g ys js → AreRead g (xs ++ ys) (ks ++ js)
read_append g [] [] ys js read more = more
read_append g (x ∷ xs) (k ∷ ks) ys js read more = (read.0, read_append g xs ks ys js read.1 more)
read_append g [] (k ∷ ks) ys js read more = absurd read
read_append g (x ∷ xs) [] ys js read more = absurd read

pub can_append : (g : GridPlans) (t : ℕ) (ks js : List Known) (nodes : Nodes) → AllKnownCan g t nodes ks → AllKnownCan g t (known_after g t nodes ks) js → AllKnownCan g t nodes (ks ++ js)
can_append g t [] js nodes can more = more
can_append g t (k ∷ ks) js nodes can more = (can.0, can_append g t ks js (nodes_after (world_at g t) nodes (known_events g t nodes k)) can.1 more)

pub after_append : (g : GridPlans) (t : ℕ) (ks js : List Known) (nodes : Nodes) → known_after g t nodes (ks ++ js) ≡ known_after g t (known_after g t nodes ks) js
after_append g t [] js nodes = refl
after_append g t (k ∷ ks) js nodes = after_append g t ks js (nodes_after (world_at g t) nodes (known_events g t nodes k))

-- ---- the losses

abbrev pub replaced_known : (new losses : ℕ) → List Known
replaced_known new losses =
    Begun 0 losses
    ∷ Begun new losses
    ∷ Gets 0 losses (Joins new losses)
    ∷ Gets new losses (Joined 0 losses)
    ∷ Gets new losses Tick
    ∷ Gets 0 losses (Fetch new file_worked)
    ∷ Gets new losses (Fetched 0 file_worked first_copy)
    ∷ []

abbrev pub losses_known : List Known
losses_known = Begun 0 0 ∷ Begun 1 0 ∷ replaced_known 65 1 ++ replaced_known 129 2 ++ replaced_known 193 3

pub replaced_read : (new losses : ℕ) (tick : List ℕ) → new < 960 → losses < 4 → incoming_of grid_worked.plan new tick ≡ Tick → AreRead grid_worked (replaced_by new losses tick) (replaced_known new losses)
replaced_read new losses tick few low ticks =
    let asked = (joins_read_back grid_worked.plan 0 new losses (omega arith) few (omega arith)).asked in
    let answered = (joins_read_back grid_worked.plan new 0 losses (omega arith) (omega arith) (omega arith)).answered in
    let wants = transfers_read_back grid_worked.plan new (Wants 0 file_worked) is_plan (record { tenant = omega arith; to_fits = omega arith; from_fits = few; volume = omega arith; file = omega arith; given = tt }) in
    let brings = transfers_read_back grid_worked.plan 0 (Brings new file_worked first_copy) is_plan (record { tenant = omega arith; to_fits = omega arith; from_fits = omega arith; volume = omega arith; file = omega arith; given = ((omega arith, omega arith, λ i. omega arith), omega arith) }) in
    ((refl, refl), ((refl, refl), ((refl, refl, asked), ((refl, refl, answered), ((refl, refl, ticks), ((refl, refl, wants.2), ((refl, refl, brings.2), tt)))))))

pub first_tick : incoming_of grid_worked.plan 65 (codes "65 65 tick") ≡ Tick
unfolding incoming_of_words number_up_to
first_tick = refl

pub next_tick : incoming_of grid_worked.plan 129 (codes "129 129 tick") ≡ Tick
unfolding incoming_of_words number_up_to
next_tick = refl

pub last_tick : incoming_of grid_worked.plan 193 (codes "193 193 tick") ≡ Tick
unfolding incoming_of_words number_up_to
last_tick = refl

pub losses_read : AreRead grid_worked losses_worked losses_known
losses_read = (
  (refl, refl),
  (
    (refl, refl),
    read_append grid_worked (replaced_by 65 1 (codes "65 65 tick") ++ replaced_by 129 2 (codes "129 129 tick")) (replaced_known 65 1 ++ replaced_known 129 2) (replaced_by 193 3 (codes "193 193 tick")) (replaced_known 193 3)
        (read_append grid_worked (replaced_by 65 1 (codes "65 65 tick")) (replaced_known 65 1) (replaced_by 129 2 (codes "129 129 tick")) (replaced_known 129 2) (replaced_read 65 1 (codes "65 65 tick") (omega arith) (omega arith) first_tick) (replaced_read 129 2 (codes "129 129 tick") (omega arith) (omega arith) next_tick))
        (replaced_read 193 3 (codes "193 193 tick") (omega arith) (omega arith) last_tick),
  ),
)

-- a step, and those behind it
infixr 4 ◌and◌
◌and◌ : {P Q : Type 0} → P → Q → P × Q
p and q = (p, q)

abbrev pub first_known : List Known
first_known = Begun 0 0 ∷ Begun 1 0 ∷ replaced_known 65 1

abbrev pub new : Nodes
new = new_nodes (world_at grid_worked 0)

abbrev pub one_lost : Nodes
one_lost = known_after grid_worked 0 new first_known

abbrev pub two_lost : Nodes
two_lost = known_after grid_worked 0 one_lost (replaced_known 129 2)

first_can : AllKnownCan grid_worked 0 new first_known
unfolding collect_quorum store_quorum ends_collect ends_store are_peers within hops
first_can =
    (refl, refl, λ begun. omega arith)
    and (refl, refl, λ begun. omega arith)
    and (refl, refl, λ begun. omega arith)
    and (refl, refl, λ begun. omega arith)
    and (refl, refl)
    and ((refl, refl, (0, omega arith, refl)), tt)
    and ((refl, refl, tt), ((refl, refl, tt), ((refl, refl, tt), tt)))
    and ((refl, refl, (0, omega arith, refl)), tt)
    and ((refl, refl, (0, omega arith, refl)), tt)
    and tt

next_can : AllKnownCan grid_worked 0 one_lost (replaced_known 129 2)
unfolding collect_quorum store_quorum ends_collect ends_store are_peers within hops
next_can =
    (refl, refl, λ begun. omega arith)
    and (refl, refl, λ begun. omega arith)
    and (refl, refl)
    and ((refl, refl, (1, omega arith, refl)), tt)
    and ((refl, refl, tt), ((refl, refl, tt), ((refl, refl, tt), tt)))
    and ((refl, refl, (1, omega arith, refl)), tt)
    and ((refl, refl, (1, omega arith, refl)), tt)
    and tt

last_can : AllKnownCan grid_worked 0 two_lost (replaced_known 193 3)
unfolding collect_quorum store_quorum ends_collect ends_store are_peers within hops
last_can =
    (refl, refl, λ begun. omega arith)
    and (refl, refl, λ begun. omega arith)
    and (refl, refl)
    and ((refl, refl, (2, omega arith, refl)), tt)
    and ((refl, refl, tt), ((refl, refl, tt), ((refl, refl, tt), tt)))
    and ((refl, refl, (2, omega arith, refl)), tt)
    and ((refl, refl, (2, omega arith, refl)), tt)
    and tt

pub losses_can : AllKnownCan grid_worked 0 new losses_known
losses_can =
    can_append grid_worked 0 (first_known ++ replaced_known 129 2) (replaced_known 193 3) new (can_append grid_worked 0 first_known (replaced_known 129 2) new first_can next_can)
    (subst (λ nodes. AllKnownCan grid_worked 0 nodes (replaced_known 193 3)) (sym (after_append grid_worked 0 first_known (replaced_known 129 2) new)) last_can)
