use Rattle.gq_chunks.proofs.Telling.{contents_are_short}
use Rattle.gq_chunks.proofs.laws.contents_are_short.Goals as goal

pub returns : goal.returns
returns c = contents_are_short
