-- What the events so far do.
use Rattle.std.proofs.Common.{◌≡◌}
use Rattle.gq_picture.proofs.Effects.{first_effects}
use Rattle.gq_picture.proofs.absences.read_effects.Given as goal

abbrev pub invariant-loop-i : goal.invariant-loop-i
invariant-loop-i l = l.all.items ≡ first_effects l.i l.events l.answers
