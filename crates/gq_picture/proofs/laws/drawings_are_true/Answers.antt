use Rattle.gq_picture.proofs.Drawings.{drawings_are_true}
use Rattle.gq_picture.proofs.laws.drawings_are_true.Goals as goal

pub returns : goal.returns
returns c = drawings_are_true
