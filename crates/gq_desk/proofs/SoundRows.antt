-- Rows without a fault: each is found by its name, and its numbers are in their ranges.
use Rattle.std.proofs.Common.{◌≡◌, ◌∙◌, ℕ, zero, suc, ◌+◌, ◌≤◌, List, [], ◌∷◌, ◌++◌, length, length-append, Option, Some, None, Bool, true, false, cond, refl, sym, ap, subst, arith}
use Rattle.std.specs.Prelude.{slice_get, nat_le, not, ◌==◌}
use Rattle.std.specs.List.{list_any, position_from}
use Rattle.std.specs.Option.{option_or}
use Rattle.std.specs.Str.{bytes_eq}
use Rattle.std.proofs.lemmas.Bool.{or_parts}
use Rattle.std.proofs.lemmas.Bool.Decides.{nat_tests}
use Rattle.std.proofs.lemmas.List.Folds.{list_any-append}
use Rattle.std.proofs.lemmas.Slice.Eq.{bytes_eq-Decides}
use Rattle.gq_desk.specs.CheckedPlan.{CheckedPlan, row_at}
use Rattle.gq_desk.specs.Plans.{is_in, is_of, number_fault, row_fault, rows_fault, table_fault, plan_fault}
use Rattle.gq_desk.specs.declared.plans.TenantRow.{TenantRow}
use Rattle.gq_desk.specs.declared.plans.PlanFault.{PlanFault}
use Rattle.gq_desk.specs.declared.plans.PlanFault.TheVariants.{TooMany, SameName, ZeroShare, Sessions, Steps, Most, Volumes}
use Rattle.gq_desk.specs.declared.limits.TheConstants.{MOST_FILE_BLOCKS, MOST_SESSIONS, MOST_STEPS, MOST_TENANTS, MOST_VOLUMES}

pub same_word : (word : List ℕ) → bytes_eq word word ≡ true
same_word word = (bytes_eq-Decides word word).1 refl

pub or_none : (x y : Option PlanFault) → option_or x y ≡ None → (x ≡ None) × (y ≡ None)
or_none None y is = (refl, is)
or_none (Some x) y is = cc

pub unless_none : (b : Bool) (x : PlanFault) (y : Option PlanFault) → cond b (Some x) y ≡ None → (b ≡ false) × (y ≡ None)
unless_none true x y is = cc
unless_none false x y is = (refl, is)

unused_by_one : (before : List TenantRow) (row : TenantRow) → row_fault before row ≡ None → list_any (is_of row.name) before ≡ false
unused_by_one before row none = (unless_none _ _ _ (unless_none _ _ _ none).1).0

-- the name of a row isn't used before it
unused : (before rows : List TenantRow) (t : ℕ) (row : TenantRow) → rows_fault before rows ≡ None → slice_get rows t ≡ Some row → list_any (is_of row.name) before ≡ false
unused before [] t row none at = cc
unused before (first ∷ rows) zero row none at =
    let same : first ≡ row = cc in
    let P : TenantRow → Type 0 = λ r. list_any (is_of r.name) before ≡ false in
    subst P same (unused_by_one before first (or_none (row_fault before first) (rows_fault (before ++ first ∷ []) rows) none).0)
unused before (first ∷ rows) (suc t) row none at =
    let rest = (or_none (row_fault before first) (rows_fault (before ++ first ∷ []) rows) none).1 in
    let later = unused (before ++ first ∷ []) rows t row rest at in
    (or_parts (list_any (is_of row.name) before) (list_any (is_of row.name) (first ∷ [])) (sym (list_any-append (is_of row.name) before (first ∷ [])) ∙ later)).0

-- a row is found by its name
pub found : (before rows : List TenantRow) (t from : ℕ) (row : TenantRow) → rows_fault before rows ≡ None → slice_get rows t ≡ Some row → position_from (is_of row.name) from rows ≡ Some (from + t)
found before [] t from row none at = cc
found before (first ∷ rows) zero from row none at =
    let same : first ≡ row = cc in
    let here : from ≡ from + 0 = omega arith in
    let P : TenantRow → Type 0 = λ r. position_from (is_of row.name) from (r ∷ rows) ≡ Some (from + 0) in
    subst P (sym same) (rw (same_word row.name) (ap Some here))
found before (first ∷ rows) (suc t) from row none at =
    let rest = (or_none (row_fault before first) (rows_fault (before ++ first ∷ []) rows) none).1 in
    let later = unused (before ++ first ∷ []) rows t row rest at in
    let here = (or_parts (list_any (is_of row.name) before) (list_any (is_of row.name) (first ∷ [])) (sym (list_any-append (is_of row.name) before (first ∷ [])) ∙ later)).1 in
    let differs : is_of row.name first ≡ false = (or_parts (is_of row.name first) false here).0 in
    let place : from + 1 + t ≡ from + suc t = omega arith in
    rw differs (found (before ++ first ∷ []) rows t (from + 1) row rest at ∙ ap Some place)

-- the row at the place that is found
pub row_found : (p : TenantRow → Bool) (rows : List TenantRow) (from u : ℕ) → position_from p from rows ≡ Some u → (row : TenantRow) × (k : ℕ) × (u ≡ from + k) × (slice_get rows k ≡ Some row) × (p row ≡ true)
row_found p [] from u is = cc
row_found p (first ∷ rows) from u is = by (p first) refl is (row_found p rows (from + 1) u)
  where
    by : (b : Bool) → p first ≡ b → cond b (Some from) (position_from p (from + 1) rows) ≡ Some u
        → (position_from p (from + 1) rows ≡ Some u → (row : TenantRow) × (k : ℕ) × (u ≡ from + 1 + k) × (slice_get rows k ≡ Some row) × (p row ≡ true))
        → (row : TenantRow) × (k : ℕ) × (u ≡ from + k) × (slice_get (first ∷ rows) k ≡ Some row) × (p row ≡ true)
    by true here is later =
        let same : from ≡ u = cc in
        (first, 0, omega arith, refl, here)
    by false here is later =
        let r = later is in
        (r.0, suc r.1, omega (arith, r.2), r.3, r.4)

-- ---- ranges

numbers_of_one : (before : List TenantRow) (row : TenantRow) → row_fault before row ≡ None → number_fault (length before) row ≡ None
numbers_of_one before row none =
    let later = unless_none (nat_le MOST_TENANTS (length before)) (TooMany (length before)) (cond (list_any (is_of row.name) before) (Some (SameName (length before))) (number_fault (length before) row)) none in
    (unless_none (list_any (is_of row.name) before) (SameName (length before)) (number_fault (length before) row) later.1).1

numbers_from : (before rows : List TenantRow) (t : ℕ) (row : TenantRow) → rows_fault before rows ≡ None → slice_get rows t ≡ Some row → number_fault (length before + t) row ≡ None
numbers_from before [] t row none at = cc
numbers_from before (first ∷ rows) zero row none at =
    let same : first ≡ row = cc in
    let place : length before ≡ length before + 0 = omega arith in
    let P : TenantRow → ℕ → Type 0 = λ r n. number_fault n r ≡ None in
    subst (P row) place (subst (λ r. P r (length before)) same (numbers_of_one before first (or_none (row_fault before first) (rows_fault (before ++ first ∷ []) rows) none).0))
numbers_from before (first ∷ rows) (suc t) row none at =
    let rest = (or_none (row_fault before first) (rows_fault (before ++ first ∷ []) rows) none).1 in
    let place : length (before ++ first ∷ []) + t ≡ length before + suc t = omega (arith, length-append before (first ∷ [])) in
    let P : ℕ → Type 0 = λ n. number_fault n row ≡ None in
    subst P place (numbers_from (before ++ first ∷ []) rows t row rest at)

-- the numbers of a plan's row are in their ranges
pub row_numbers : (blocks : ℕ) (rows : List TenantRow) (t : ℕ) (row : TenantRow) → plan_fault blocks rows ≡ None → slice_get rows t ≡ Some row → number_fault t row ≡ None
row_numbers blocks rows t row none at =
    let place : 0 + t ≡ t = omega arith in
    let P : ℕ → Type 0 = λ n. number_fault n row ≡ None in
    subst P place (numbers_from [] rows t row (or_none (rows_fault [] rows) (table_fault blocks rows) none).0 at)

within_few : (sessions : ℕ) → not (is_in 1 MOST_SESSIONS sessions) ≡ false → sessions ≤ MOST_SESSIONS
within_few sessions is = grind (arith, nat_tests)

pub row_few : (t : ℕ) (row : TenantRow) → number_fault t row ≡ None → row.sessions ≤ MOST_SESSIONS
row_few t row none = within_few row.sessions (unless_none _ _ _ (unless_none _ _ _ none).1).0

within_most : (blocks : ℕ) → not (is_in 1 MOST_FILE_BLOCKS blocks) ≡ false → blocks ≤ MOST_FILE_BLOCKS
within_most blocks is = grind (arith, nat_tests)

within_volumes : (volumes : ℕ) → not (is_in 1 MOST_VOLUMES volumes) ≡ false → volumes ≤ MOST_VOLUMES
within_volumes volumes is = grind (arith, nat_tests)

pub row_most : (t : ℕ) (row : TenantRow) → number_fault t row ≡ None → (row.most_blocks ≤ MOST_FILE_BLOCKS) × (row.most_volumes ≤ MOST_VOLUMES)
row_most t row none =
    let wide : Option PlanFault = cond (not (is_in 1 MOST_VOLUMES row.most_volumes)) (Some (Volumes t)) None in
    let last : Option PlanFault = cond (not (is_in 1 MOST_FILE_BLOCKS row.most_blocks)) (Some (Most t)) wide in
    let late : Option PlanFault = cond (not (is_in 1 MOST_STEPS row.steps)) (Some (Steps t)) last in
    let share = unless_none (row.share == 0) (ZeroShare t) (cond (not (is_in 1 MOST_SESSIONS row.sessions)) (Some (Sessions t)) late) none in
    let sessions = unless_none (not (is_in 1 MOST_SESSIONS row.sessions)) (Sessions t) late share.1 in
    let steps = unless_none (not (is_in 1 MOST_STEPS row.steps)) (Steps t) last sessions.1 in
    let most = unless_none (not (is_in 1 MOST_FILE_BLOCKS row.most_blocks)) (Most t) wide steps.1 in
    let volumes = unless_none (not (is_in 1 MOST_VOLUMES row.most_volumes)) (Volumes t) None most.1 in
    (within_most row.most_blocks most.0, within_volumes row.most_volumes volumes.0)

-- a plan gives a tenant few sessions, and nobody none
pub few_sessions : (plan : CheckedPlan) → plan_fault plan.blocks plan.rows ≡ None → (t : ℕ) → (row_at plan t).sessions ≤ MOST_SESSIONS
few_sessions plan none t = go (slice_get plan.rows t) refl
  where
    go : (row : Option TenantRow) → slice_get plan.rows t ≡ row → (row_at plan t).sessions ≤ MOST_SESSIONS
    go None at = rw at (omega arith)
    go (Some row) at = rw at (row_few t row (row_numbers plan.blocks plan.rows t row none at))

-- ---- words

-- a row of the word is the first of its name
pub found_word : (blocks : ℕ) (rows : List TenantRow) (t : ℕ) (row : TenantRow) (word : List ℕ) → plan_fault blocks rows ≡ None → slice_get rows t ≡ Some row → bytes_eq word row.name ≡ true → position_from (is_of word) 0 rows ≡ Some t
found_word blocks rows t row word none at is =
    let same : word ≡ row.name = (bytes_eq-Decides word row.name).0 is in
    let place : 0 + t ≡ t = omega arith in
    rw same (found [] rows t 0 row (or_none (rows_fault [] rows) (table_fault blocks rows) none).0 at ∙ ap Some place)
