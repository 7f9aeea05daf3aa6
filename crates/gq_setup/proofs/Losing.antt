-- Nodes that may be lost, one behind another.
use Rattle.std.proofs.Common.{◌≡◌, ℕ, ◌+◌, ◌*◌, ◌<◌, ◌≤◌, List, [], ◌∷◌, ◌++◌, length, length-append, true, sym, subst, arith, append_assoc, append-nil}
use Rattle.std.specs.Prelude.{nat_lt, ◌&&◌}
use Rattle.std.proofs.lemmas.Bool.{and_parts, ltb-true}
use Rattle.gq_desk.specs.CheckedPlan.{CheckedPlan}
use Rattle.gq_replace.specs.Plans.{times}
use Rattle.gq_node.specs.declared.lost.TheConstants.{MOST_TIMES}
use Rattle.gq_node.specs.Sites.{plan_in}
use Rattle.gq_setup.specs.declared.openings.TheConstants.{MOST_LOSSES}
use Rattle.gq_setup.specs.Setups.{can_lose, CanLose}

-- behind what may be lost another may be, where nothing speaks against it
pub one_lost : (plan : CheckedPlan) (before lost : List ℕ) (place : ℕ) → CanLose plan before lost → can_lose plan (before ++ lost) place ≡ true → CanLose plan before (lost ++ place ∷ [])
one_lost plan before [] place can may = (subst (λ b. can_lose plan b place ≡ true) (append-nil before) may, tt)
one_lost plan before (x ∷ lost) place can may =
    (can.0, one_lost plan (before ++ x ∷ []) lost place can.1 (subst (λ b. can_lose plan b place ≡ true) (sym (append_assoc before (x ∷ []) lost)) may))

-- no more were lost than may be
pub few_losses : (plan : CheckedPlan) (before lost : List ℕ) → length before ≤ MOST_LOSSES → CanLose plan before lost → length (before ++ lost) ≤ MOST_LOSSES
few_losses plan before [] few can = subst (λ (b : List ℕ). length b ≤ MOST_LOSSES) (sym (append-nil before)) few
few_losses plan before (place ∷ lost) few can =
    let first = and_parts (nat_lt place (plan.grid.rows * plan.grid.cols)) (nat_lt 1 plan.grid.rows && (nat_lt (length before) MOST_LOSSES && nat_lt (times (plan_in before) place) MOST_TIMES)) can.0 in
    let second = and_parts (nat_lt 1 plan.grid.rows) (nat_lt (length before) MOST_LOSSES && nat_lt (times (plan_in before) place) MOST_TIMES) first.1 in
    let third = and_parts (nat_lt (length before) MOST_LOSSES) (nat_lt (times (plan_in before) place) MOST_TIMES) second.1 in
    let less : length before < MOST_LOSSES = ltb-true (length before) MOST_LOSSES third.0 in
    let one : length (before ++ place ∷ []) ≡ length before + 1 = length-append before (place ∷ []) in
    subst (λ (b : List ℕ). length b ≤ MOST_LOSSES) (append_assoc before (place ∷ []) lost) (few_losses plan (before ++ place ∷ []) lost (omega (arith, less, one)) can.1)

-- not too many nodes were lost where one may be
pub few_lost : (plan : CheckedPlan) (lost : List ℕ) (place : ℕ) → can_lose plan lost place ≡ true → times (plan_in lost) place < MOST_TIMES
few_lost plan lost place can =
    let first = and_parts (nat_lt place (plan.grid.rows * plan.grid.cols)) (nat_lt 1 plan.grid.rows && (nat_lt (length lost) MOST_LOSSES && nat_lt (times (plan_in lost) place) MOST_TIMES)) can in
    let second = and_parts (nat_lt 1 plan.grid.rows) (nat_lt (length lost) MOST_LOSSES && nat_lt (times (plan_in lost) place) MOST_TIMES) first.1 in
    let third = and_parts (nat_lt (length lost) MOST_LOSSES) (nat_lt (times (plan_in lost) place) MOST_TIMES) second.1 in
    ltb-true (times (plan_in lost) place) MOST_TIMES third.1
