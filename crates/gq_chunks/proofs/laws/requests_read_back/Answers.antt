use Rattle.gq_chunks.proofs.RequestsBack.{requests_read_back}
use Rattle.gq_chunks.proofs.laws.requests_read_back.Goals as goal

pub returns : goal.returns
returns c = requests_read_back
