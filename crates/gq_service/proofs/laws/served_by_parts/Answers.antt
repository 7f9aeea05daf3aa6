use Rattle.gq_service.proofs.ByParts.{served_by_parts}
use Rattle.gq_service.proofs.laws.served_by_parts.Goals as goal

pub returns : goal.returns
returns c = served_by_parts c.starts_apart.ensures.starts c.tenants_apart.ensures.runs
