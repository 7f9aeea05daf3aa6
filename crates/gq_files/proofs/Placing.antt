-- The operations that a tenant sees, at their places among all.
use Rattle.std.proofs.Common.{◌≡◌, ◌∙◌, ℕ, zero, suc, ◌+◌, ◌<◌, List, [], ◌∷◌, Option, Some, None, map, length, refl, sym, ap, option_map, arith}
use Rattle.std.specs.Prelude.{slice_index}
use Rattle.gq_tag.specs.Tag.{File}
use Rattle.gq_desk.specs.CheckedPlan.{CheckedPlan, row_at}
use Rattle.gq_model.specs.declared.events.Event.{Event}
use Rattle.gq_model.specs.Told.{Told}
use Rattle.gq_model.specs.Trace.{Turn}
use Rattle.gq_model.specs.Lone.{lone}
use Rattle.gq_model.specs.Events.{turn_of, own}
use Rattle.gq_laws.specs.declared.ops.Op.{Op}
use Rattle.gq_laws.specs.Laws.{lone_operations}
use Rattle.gq_laws.specs.Operations.{Answered, answered, answered_from, operations}
use Rattle.gq_laws.specs.Tenants.{tenant_operations}
use Rattle.gq_laws.proofs.AllTenants.{operations_alone, place_in_all}
use Rattle.gq_laws.proofs.OtherPlaces.{moved_op, moved_turn, operations-moved}
use Rattle.gq_script.specs.Seeing.{seen_events, seen_places}
use Rattle.gq_script.proofs.Answering.{own_seen}
use Rattle.gq_files.specs.Histories.{placed}

-- ---- what a tenant sees of what it sees is all of that

place_alone : (t n : ℕ) (events : List Event) (i : ℕ) → place_in_all t n (seen_events (Some t) events) i ≡ n + i
place_alone t n [] i = refl
place_alone t n (e ∷ events) i = by (turn_of t e) refl (λ m. place_alone t m events) i
  where
    by : (o : Option Turn) → turn_of t e ≡ o → ((m i : ℕ) → place_in_all t m (seen_events (Some t) events) i ≡ m + i) → (i : ℕ) → place_in_all t n (seen_events (Some t) (e ∷ events)) i ≡ n + i
    by None is later i = rw is (later n i)
    by (Some turn) is later i = rw is (of i)
      where
        of : (i : ℕ) → place_in_all t n (e ∷ seen_events (Some t) events) i ≡ n + i
        of zero = rw is (omega arith)
        of (suc i) = rw is (later (n + 1) i ∙ omega arith)

op_stays : (a : Op) → moved_op (λ i. i) a ≡ a
op_stays a = by a.end refl
  where
    by : (o : Option ℕ) → a.end ≡ o → moved_op (λ i. i) a ≡ a
    by None is = λ i. record { kind = a.kind; session = a.session; op = a.op; begin = a.begin; end = (ap (option_map (λ n. n)) is ∙ sym is) i; tag = a.tag }
    by (Some e) is = λ i. record { kind = a.kind; session = a.session; op = a.op; begin = a.begin; end = (ap (option_map (λ n. n)) is ∙ sym is) i; tag = a.tag }

ops_stay : (ops : List Op) → map (moved_op (λ i. i)) ops ≡ ops
ops_stay [] = refl
ops_stay (a ∷ ops) = λ i. op_stays a i ∷ ops_stay ops i

seen_alone : (plan : CheckedPlan) (t : ℕ) (events : List Event) (file : File) → tenant_operations plan (seen_events (Some t) events) t file ≡ lone_operations plan.grid (row_at plan t) (own t events) file
seen_alone plan t events file =
    let ops : List Op = lone_operations plan.grid (row_at plan t) (own t (seen_events (Some t) events)) file in
    let stays : place_in_all t 0 (seen_events (Some t) events) ≡ (λ i. i) = λ j i. (place_alone t 0 events i ∙ zero_more i) j in
    operations_alone plan (seen_events (Some t) events) t file
    ∙ (ap (λ (f : ℕ → ℕ). map (moved_op f) ops) stays
    ∙ (ops_stay ops ∙ ap (λ turns. lone_operations plan.grid (row_at plan t) turns file) (own_seen t events)))
  where
    zero_more : (i : ℕ) → 0 + i ≡ i
    zero_more i = omega arith

-- ---- the places of what it sees, as a list

place_listed : (t n : ℕ) (events : List Event) (i : ℕ) → i < length (own t events) → place_in_all t n events i ≡ slice_index (seen_places (Some t) n events) i
place_listed t n [] i low = absurd (omega arith)
place_listed t n (e ∷ events) i low = by (turn_of t e) refl (place_listed t (n + 1) events) i low
  where
    by : (o : Option Turn) → turn_of t e ≡ o → ((i : ℕ) → i < length (own t events) → place_in_all t (n + 1) events i ≡ slice_index (seen_places (Some t) (n + 1) events) i)
        → (i : ℕ) → i < length (own t (e ∷ events)) → place_in_all t n (e ∷ events) i ≡ slice_index (seen_places (Some t) n (e ∷ events)) i
    by None is later i low = let less : i < length (own t events) = rw is at low in rw is (later i less)
    by (Some turn) is later zero low = rw is refl
    by (Some turn) is later (suc i) low = let less : suc i < suc (length (own t events)) = rw is at low in rw is (later i (omega arith))

turns_same : (f g : ℕ → ℕ) (n : ℕ) (turns : List Turn) (tolds : List Told) → ((i : ℕ) → i < length turns → f (n + i) ≡ g (n + i)) → map (moved_turn f) (answered_from n turns tolds) ≡ map (moved_turn g) (answered_from n turns tolds)
turns_same f g n [] tolds same = refl
turns_same f g n (turn ∷ turns) [] same = refl
turns_same f g n (turn ∷ turns) (told ∷ tolds) same =
    let first : f n ≡ g n = ap f (none n) ∙ (same 0 (omega arith) ∙ sym (ap g (none n))) in
    let rest = turns_same f g (n + 1) turns tolds (λ i low. ap f (next n i) ∙ (same (suc i) (omega arith) ∙ sym (ap g (next n i)))) in
    λ i. record { place = first i; turn = turn; told = told } ∷ rest i
  where
    none : (n : ℕ) → n ≡ n + 0
    none n = omega arith

    next : (n i : ℕ) → n + 1 + i ≡ n + suc i
    next n i = omega arith

-- the operations over all events are those over what the tenant sees, each at its places among all
pub operations_placed : (plan : CheckedPlan) (t : ℕ) (events : List Event) (file : File)
    → tenant_operations plan events t file ≡ map (placed (seen_places (Some t) 0 events)) (tenant_operations plan (seen_events (Some t) events) t file)
operations_placed plan t events file =
    let turns : List Turn = own t events in
    let tolds : List Told = lone plan.grid (row_at plan t) turns in
    let run : List Answered = answered turns tolds in
    let f : ℕ → ℕ = place_in_all t 0 events in
    let g : ℕ → ℕ = slice_index (seen_places (Some t) 0 events) in
    operations_alone plan events t file
    ∙ (sym (operations-moved f run file)
    ∙ (ap (λ (all : List Answered). operations all file) (turns_same f g 0 turns tolds (λ i low. ap f (zero_more i) ∙ (place_listed t 0 events i low ∙ sym (ap g (zero_more i)))))
    ∙ (operations-moved g run file
    ∙ ap (map (moved_op g)) (sym (seen_alone plan t events file)))))
  where
    zero_more : (i : ℕ) → 0 + i ≡ i
    zero_more i = omega arith
