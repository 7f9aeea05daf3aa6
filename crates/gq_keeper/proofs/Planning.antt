-- Batches of plans and of facts, put together.
use Rattle.std.proofs.Common.{◌≡◌, List, [], ◌∷◌, ◌++◌, true, false, refl, sym, ap, ◌∙◌, append_assoc, append-nil}
use Rattle.std.specs.Prelude.{◌&&◌, not, if◌then◌else◌}
use Rattle.std.proofs.lemmas.Bool.{and_parts}
use Rattle.std.proofs.lemmas.List.Folds.{list_all-append}
use Rattle.gq_journal.specs.Batches.{Line, is_batch_line, are_batch_lines}
use Rattle.gq_journal.proofs.Lines.{not-true}
use Rattle.gq_keeper.specs.Plans.{is_head, is_plan, are_facts, facts_in, first_plan, last_plan, begins_with_plan}

pub facts_in-append : (a b : List (List Line)) → facts_in (a ++ b) ≡ facts_in a ++ facts_in b
facts_in-append [] b = refl
facts_in-append (x ∷ a) b = ap (λ t. (if is_plan x then [] else x) ++ t) (facts_in-append a b) ∙ sym (append_assoc (if is_plan x then [] else x) (facts_in a) (facts_in b))

pub last_plan-append : (p : List Line) (a b : List (List Line)) → last_plan p (a ++ b) ≡ last_plan (last_plan p a) b
last_plan-append p [] b = refl
last_plan-append p (x ∷ a) b = last_plan-append (if is_plan x then x else p) a b

pub begins_append : (a b : List (List Line)) → begins_with_plan a ≡ true → begins_with_plan (a ++ b) ≡ true
begins_append [] b begins = cc
begins_append (x ∷ a) b begins = begins

-- more batches don't change with which plan a journal begins
pub first_plan-append : (a b : List (List Line)) → begins_with_plan a ≡ true → first_plan (a ++ b) ≡ first_plan a
first_plan-append [] b begins = cc
first_plan-append (x ∷ a) b begins = refl

-- ---- a batch of facts

fact_parts : (line : Line) (lines : List Line) → are_facts (line ∷ lines) ≡ true → (is_batch_line line ≡ true) × (is_head line ≡ false) × (are_facts lines ≡ true)
fact_parts line lines are =
    let parts = and_parts (is_batch_line line && not (is_head line)) (are_facts lines) are in
    let own = and_parts (is_batch_line line) (not (is_head line)) parts.0 in
    (own.0, not-true (is_head line) own.1, parts.1)

pub open_facts : (lines : List Line) → are_facts lines ≡ true → are_batch_lines lines ≡ true
open_facts [] are = refl
open_facts (line ∷ lines) are =
    let parts = fact_parts line lines are in
    rw (parts.0, open_facts lines parts.2) refl

pub facts_no_plan : (lines : List Line) → are_facts lines ≡ true → is_plan lines ≡ false
facts_no_plan [] are = refl
facts_no_plan (line ∷ lines) are = (fact_parts line lines are).1

pub are_facts-append : (a b : List Line) → are_facts a ≡ true → are_facts b ≡ true → are_facts (a ++ b) ≡ true
are_facts-append a b x y = rw (list_all-append (λ (line : Line). is_batch_line line && not (is_head line)) a b, x, y) refl

fact_batch : (batch : List Line) → is_plan batch ≡ false → facts_in (batch ∷ []) ≡ batch
fact_batch batch none = rw none (append-nil batch)

-- the batch of some facts, if there are any
abbrev pub batches_for : List Line → List (List Line)
batches_for [] = []
batches_for (line ∷ lines) = (line ∷ lines) ∷ []

pub facts_in-for : (facts : List Line) → are_facts facts ≡ true → facts_in (batches_for facts) ≡ facts
facts_in-for [] are = refl
facts_in-for (line ∷ lines) are = fact_batch (line ∷ lines) (facts_no_plan (line ∷ lines) are)

pub last_plan-for : (p : List Line) (facts : List Line) → are_facts facts ≡ true → last_plan p (batches_for facts) ≡ p
last_plan-for p [] are = refl
last_plan-for p (line ∷ lines) are = rw (facts_no_plan (line ∷ lines) are) refl

-- ---- a batch of a plan

pub plan_batch_facts : (plan : List Line) → is_plan plan ≡ true → facts_in (plan ∷ []) ≡ []
plan_batch_facts plan is = rw is refl

pub plan_batch_last : (p plan : List Line) → is_plan plan ≡ true → last_plan p (plan ∷ []) ≡ plan
plan_batch_last p plan is = rw is refl
