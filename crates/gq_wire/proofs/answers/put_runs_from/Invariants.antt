-- The runs that have ended are told, and one goes on.
use Rattle.gq_wire.proofs.Runs.{Runs}
use Rattle.gq_wire.proofs.answers.put_runs_from.Given as goal

abbrev pub invariant-loop-volume : goal.invariant-loop-volume
invariant-loop-volume l = Runs l.fn.out.items l.out.items l.first l.run l.volumes l.volume-index l.times
