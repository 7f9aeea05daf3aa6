use Rattle.gq_setup.proofs.Remaining.{what_is_left}
use Rattle.gq_setup.proofs.laws.what_is_left.Goals as goal

pub returns : goal.returns
returns c = what_is_left
