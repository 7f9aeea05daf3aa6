use Rattle.gq_cluster.proofs.laws.own_writes_rise.Goals as goal
use Rattle.gq_cluster.proofs.OwnWrites.{all_own_writes_rise, all_clusters_own_writes_rise}

pub returns : goal.returns
returns c = record {
  runs = all_own_writes_rise;
  clusters = all_clusters_own_writes_rise;
}
