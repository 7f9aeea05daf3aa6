use Rattle.gq_setup.proofs.Staying.{homes_stay}
use Rattle.gq_setup.proofs.laws.homes_stay.Goals as goal

pub returns : goal.returns
returns c = homes_stay
