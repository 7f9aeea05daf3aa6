use Rattle.gq_facts.proofs.FactsBack.{facts_read_back}
use Rattle.gq_facts.proofs.laws.facts_read_back.Goals as goal

pub returns : goal.returns
returns c = facts_read_back
