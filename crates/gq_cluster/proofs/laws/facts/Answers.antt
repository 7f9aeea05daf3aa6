use Rattle.gq_cluster.proofs.laws.facts.Goals as goal
use Rattle.gq_cluster.proofs.Keeping.{all_acts_keep, all_facts_suffice}
use Rattle.gq_cluster.proofs.Reserving.{all_used_reserved}

pub returns : goal.returns
returns c = record {
  acts = all_acts_keep;
  suffice = all_facts_suffice;
  reserved = all_used_reserved;
}
