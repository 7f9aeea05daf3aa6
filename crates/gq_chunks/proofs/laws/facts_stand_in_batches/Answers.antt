use Rattle.gq_chunks.proofs.FactsBack.{facts_stand_in_batches}
use Rattle.gq_chunks.proofs.laws.facts_stand_in_batches.Goals as goal

pub returns : goal.returns
returns c = facts_stand_in_batches
