-- The worked case.
use Rattle.std.proofs.Common.{◌≡◌, ◌⊎◌, ◌<◌, ◌≤◌, ℕ, true, false, refl, arith, inl, inr}
use Rattle.std.specs.Prelude.{◌==◌, nat_le, nat_lt, if◌then◌else◌, List, [], ◌∷◌}
use Rattle.std.proofs.lemmas.Bool.{cases_eq, true≢false}
use Rattle.gq_column.specs.Column.{IsChain, first_world, after_acts}
use Rattle.gq_column.specs.Worked.{column, replaced, too_late, IsWorked}

begins : (losses node : ℕ) → column.stands losses node ≡ true → column.generation node ≤ losses
begins losses node stands = grind arith

goes_on : (before losses node : ℕ) → before ≤ losses → column.stands losses node ≡ true → (column.stands before node ≡ true) ⊎ (before < column.generation node)
goes_on before losses node early stands = grind arith

told : (k : ℕ) → column.stands 0 k ≡ true → (after_acts column (first_world column) replaced).told k 7 0 ≡ true
told k stands = by (cases_eq k 0) (cases_eq k 1)
  where
    by : (k ≡ 0) ⊎ (k ≡ 0 → ⊥) → (k ≡ 1) ⊎ (k ≡ 1 → ⊥) → (after_acts column (first_world column) replaced).told k 7 0 ≡ true
    by (inl e) b = grind (arith, e)
    by (inr a) (inl e) = grind (arith, e)
    by (inr a) (inr b) = grind arith

pub worked : IsWorked
worked = record { chain = record { begins = begins; goes_on = goes_on }; told = told; filled = refl; has = refl; told_before = refl; told_after = refl; lacks_nothing = refl; has_none = refl }
