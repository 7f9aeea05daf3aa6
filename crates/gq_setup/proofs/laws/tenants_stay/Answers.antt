use Rattle.gq_setup.proofs.Staying.{tenants_stay}
use Rattle.gq_setup.proofs.laws.tenants_stay.Goals as goal

pub returns : goal.returns
returns c = tenants_stay
