use Rattle.gq_chunks.proofs.Apart.{tenants_apart}
use Rattle.gq_chunks.proofs.laws.tenants_apart.Goals as goal

pub returns : goal.returns
returns c = tenants_apart
