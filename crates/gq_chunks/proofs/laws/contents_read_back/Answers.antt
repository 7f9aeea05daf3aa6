use Rattle.gq_chunks.proofs.Telling.{contents_read_back}
use Rattle.gq_chunks.proofs.laws.contents_read_back.Goals as goal

pub returns : goal.returns
returns c = contents_read_back
