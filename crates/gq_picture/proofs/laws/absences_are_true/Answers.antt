use Rattle.gq_picture.proofs.Outages.{absences_are_true}
use Rattle.gq_picture.proofs.laws.absences_are_true.Goals as goal

pub returns : goal.returns
returns c = absences_are_true
