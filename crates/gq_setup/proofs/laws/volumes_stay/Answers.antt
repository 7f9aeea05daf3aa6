use Rattle.gq_setup.proofs.Staying.{volumes_stay}
use Rattle.gq_setup.proofs.laws.volumes_stay.Goals as goal

pub returns : goal.returns
returns c = volumes_stay
