use Rattle.gq_replace.proofs.laws.facts.Goals as goal
use Rattle.gq_replace.proofs.Keeping.{all_fleet_facts_suffice}

pub returns : goal.returns
returns c = all_fleet_facts_suffice
