-- Each volume before that one was given whole.
use Rattle.gq_node.specs.Lacks.{AllWhole}
use Rattle.gq_node.proofs.lacks.whole_from.Given as goal

abbrev pub invariant-loop-volume : goal.invariant-loop-volume
invariant-loop-volume l = AllWhole l.volumes l.volume
