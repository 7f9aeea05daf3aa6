use Rattle.std.proofs.Common.{length}
use Rattle.gq_keeper.proofs.Finding.{Recalling}
use Rattle.gq_keeper.specs.LeavingOut.{RecallsBut}
use Rattle.gq_keeper.proofs.starting.recall_batches.Given as goal

abbrev pub invariant-loop-body : goal.invariant-loop-body
invariant-loop-body g l = Recalling (RecallsBut (g.F.LeavesOut.leaves_out l.left_out) g.M.Machine.recalls) l.fn.machine l.text l.rest l.number l.machine

abbrev pub decreases-loop-body : goal.decreases-loop-body
decreases-loop-body g l = length l.rest
