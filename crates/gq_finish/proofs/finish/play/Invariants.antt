use Rattle.std.proofs.Common.{length}
use Rattle.gq_lines.specs.Lines.{lines_of}
use Rattle.gq_finish.proofs.Finishing.{Plays}
use Rattle.gq_finish.proofs.finish.play.Given as goal

abbrev pub invariant-loop-rest : goal.invariant-loop-rest
invariant-loop-rest l = Plays l.fn.world.tables.plan l.world.tables (lines_of l.rest) (lines_of l.fn.lines)

abbrev pub decreases-loop-rest : goal.decreases-loop-rest
decreases-loop-rest l = length l.rest
