use Rattle.gq_depot.proofs.Tenants.{facts_remake}
use Rattle.gq_depot.proofs.laws.facts_remake.Goals as goal

pub returns : goal.returns
returns c = facts_remake
