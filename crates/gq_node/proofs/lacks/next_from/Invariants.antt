-- Each before the place was given.
use Rattle.gq_node.specs.Lacks.{AllGiven}
use Rattle.gq_node.proofs.lacks.next_from.Given as goal

abbrev pub invariant-loop-place : goal.invariant-loop-place
invariant-loop-place l = AllGiven l.files l.place
