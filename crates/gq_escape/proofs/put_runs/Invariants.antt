use Rattle.std.proofs.Common.{◌≡◌, ◌++◌, ℕ, List, length}
use Rattle.gq_escape.specs.Escape.{escaped}
use Rattle.gq_escape.proofs.put_runs.Given as goal

abbrev pub invariant-marks : goal.invariant-marks
invariant-marks l = record {
  written : l.out.items ++ escaped l.rest ≡ l.fn.out.items ++ escaped l.bytes;
  extends : (more : List ℕ) × (l.out.items ≡ l.fn.out.items ++ more);
}

abbrev pub decreases-marks : goal.decreases-marks
decreases-marks l = length l.rest
