use Rattle.gq_chunks.proofs.Sayings.{sayings_read_back}
use Rattle.gq_chunks.proofs.laws.sayings_read_back.Goals as goal

pub returns : goal.returns
returns c = sayings_read_back
