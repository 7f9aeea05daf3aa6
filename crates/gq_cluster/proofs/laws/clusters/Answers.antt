use Rattle.gq_cluster.proofs.laws.clusters.Goals as goal
use Rattle.gq_cluster.proofs.Clusters.{all_clusters_serve}

pub returns : goal.returns
returns c = all_clusters_serve
