use Rattle.gq_depot.proofs.Tenants.{apart}
use Rattle.gq_depot.proofs.laws.apart.Goals as goal

pub returns : goal.returns
returns c = apart
