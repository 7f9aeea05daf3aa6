-- The table of the operations that the sessions gave up.
use Rattle.std.specs.Prelude.{◌≡◌, ℕ, ◌<◌, List, length, slice_index}
use Rattle.gq_laws.specs.declared.ops.Op.{Op}
use Rattle.gq_history.specs.Moments.{given_up}

-- for each session that a byte can tell, the number of the last of these operations that it gave up
pub record IsTable (before : List Op) (table : List ℕ) : Type 0 where
  pub size : length table ≡ 256
  pub last : (k : ℕ) → k < 256 → slice_index table k ≡ given_up k before
