use Rattle.std.proofs.Common.{◌≡◌, ◌++◌, ℕ, List, length}
use Rattle.gq_quote.specs.Quote.{quoted}
use Rattle.gq_quote.proofs.put_quoted.Given as goal

abbrev pub invariant-marks : goal.invariant-marks
invariant-marks l = record {
  written : l.out.items ++ quoted l.rest ≡ l.fn.out.items ++ quoted l.bytes;
  extends : (more : List ℕ) × (l.out.items ≡ l.fn.out.items ++ more);
}

abbrev pub decreases-marks : goal.decreases-marks
decreases-marks l = length l.rest
