-- What was read of the events from here on.
use Rattle.gq_picture.proofs.Absent.{Back}
use Rattle.gq_picture.proofs.absences.read_absences.Given as goal

abbrev pub invariant-loop-i : goal.invariant-loop-i
invariant-loop-i l = Back l.servers l.places l.effects l.i l.returns.items l.all.items
