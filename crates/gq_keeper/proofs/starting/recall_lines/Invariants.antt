use Rattle.std.proofs.Common.{length}
use Rattle.gq_keeper.proofs.Finding.{Recovered}
use Rattle.gq_keeper.specs.LeavingOut.{RecallsBut}
use Rattle.gq_keeper.proofs.starting.recall_lines.Given as goal

abbrev pub invariant-loop-line : goal.invariant-loop-line
invariant-loop-line g l = Recovered (RecallsBut (g.F.LeavesOut.leaves_out l.left_out) g.M.Machine.recalls) l.fn.machine l.text l.rest l.machine

abbrev pub decreases-loop-line : goal.decreases-loop-line
decreases-loop-line g l = length l.rest
