-- Numbers that are counted by halving.
use Rattle.std.specs.Prelude.{◌≡◌, ℕ, List, length}
use Rattle.gq_laws.specs.declared.ops.Op.{Op}
use Rattle.gq_picture.specs.Columns.{begins, below, ends, latest}
use Rattle.gq_picture.specs.declared.columns.Columns.{Columns}

-- there are as many as these, and as many below each number
pub record CountsAs (numbers counted : List ℕ) : Type 0 where
  pub all : length counted ≡ length numbers
  pub each : (n : ℕ) → below n counted ≡ below n numbers

-- these are the columns of the operations
pub record AreColumns (seq : List Op) (c : Columns) : Type 0 where
  pub of_begins : CountsAs (begins seq) c.begins.items
  pub of_ends : CountsAs (ends seq) c.ends.items
  pub of_latest : CountsAs (latest seq) c.latest.items
