use Rattle.gq_facts.proofs.FactsBack.{facts_stand_in_batches}
use Rattle.gq_facts.proofs.laws.facts_stand_in_batches.Goals as goal

pub returns : goal.returns
returns c = facts_stand_in_batches
