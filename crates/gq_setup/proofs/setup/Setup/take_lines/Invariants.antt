use Rattle.std.proofs.Common.{length}
use Rattle.gq_setup.proofs.LineByLine.{Takes}
use Rattle.gq_setup.proofs.setup.Setup.take_lines.Given as goal

abbrev pub invariant-loop-rest : goal.invariant-loop-rest
invariant-loop-rest l = Takes l.first l.fn.self l.text l.rest l.number l.self

abbrev pub decreases-loop-rest : goal.decreases-loop-rest
decreases-loop-rest l = length l.rest
