use Rattle.gq_chunks.proofs.FactsBack.{facts_read_back}
use Rattle.gq_chunks.proofs.laws.facts_read_back.Goals as goal

pub returns : goal.returns
returns c = facts_read_back
