use Rattle.std.proofs.Common.{◌≡◌, ◌++◌, ℕ, List, length}
use Rattle.gq_escape.specs.Escape.{escaped}
use Rattle.gq_escape.proofs.put_escaped.Given as goal

abbrev pub invariant-parts : goal.invariant-parts
invariant-parts l = record {
  written : l.out.items ++ escaped l.rest ≡ l.fn.out.items ++ escaped l.bytes;
  extends : (more : List ℕ) × (l.out.items ≡ l.fn.out.items ++ more);
}

abbrev pub decreases-parts : goal.decreases-parts
decreases-parts l = length l.rest
