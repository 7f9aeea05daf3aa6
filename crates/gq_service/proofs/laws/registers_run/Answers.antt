use Rattle.gq_chunks.specs.Having.{chunks_of}
use Rattle.gq_service.proofs.ByParts.{registers_run}
use Rattle.gq_service.proofs.laws.registers_run.Goals as goal

pub returns : goal.returns
returns g c = registers_run (chunks_of g.S.Shelf.noted)
