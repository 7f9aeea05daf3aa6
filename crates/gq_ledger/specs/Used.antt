-- How many bytes chunks have in all.
use Rattle.std.specs.Prelude.{ℕ, List}
use Rattle.std.specs.List.{sum_by}
use Rattle.std.specs.Map.{values_of}

-- how many bytes the chunks have in all
abbrev pub used_of : {T : Type 0} → (T → ℕ) → List (ℕ × T) → ℕ
used_of length entries = sum_by length (values_of entries)
