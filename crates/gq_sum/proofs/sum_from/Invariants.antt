use Rattle.std.proofs.Common.{◌≡◌}
use Rattle.gq_sum.specs.Sums.{sum_after}
use Rattle.gq_sum.proofs.sum_from.Given as goal

abbrev pub invariant-words : goal.invariant-words
invariant-words l = l.sum ≡ sum_after l.first l.text l.i
