-- What the register holds.
use Rattle.std.specs.Prelude.{ℕ, List, [], Option, Some, None, slice_get}
use Rattle.gq_laws.specs.declared.ops.Op.{Op}
use Rattle.gq_laws.specs.Operations.{held_by}

-- what it holds where the write at this place was the last one, and nothing where there was none
abbrev pub written_by : List Op → Option ℕ → List ℕ
written_by ops None = []
written_by ops (Some place) = by (slice_get ops place)
  where
    by : Option Op → List ℕ
    by None = []
    by (Some a) = held_by [] a
