use Rattle.gq_chunks.specs.Having.{chunks_of}
use Rattle.gq_service.proofs.ByParts.{registers_by_parts}
use Rattle.gq_service.proofs.laws.registers_by_parts.Goals as goal

pub returns : goal.returns
returns g c = registers_by_parts (chunks_of g.S.Shelf.noted) c.starts_apart.ensures.starts c.tenants_apart.ensures.runs
