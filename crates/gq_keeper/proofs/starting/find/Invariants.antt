use Rattle.std.proofs.Common.{length}
use Rattle.gq_keeper.proofs.Finding.{Looking}
use Rattle.gq_keeper.proofs.starting.find.Given as goal

abbrev pub invariant-loop-body : goal.invariant-loop-body
invariant-loop-body l = Looking l.text l.rest l.number l.begins l.last

abbrev pub decreases-loop-body : goal.decreases-loop-body
decreases-loop-body l = length l.rest
