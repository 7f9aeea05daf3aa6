use Rattle.gq_cluster.proofs.laws.registers.Goals as goal
use Rattle.gq_cluster.proofs.Registers.{all_clusters_legal}

pub returns : goal.returns
returns c = all_clusters_legal
