-- Whatever comes to nodes is a run of the law, and volumes open.
use Rattle.gq_node.proofs.Events.{all_nodes_follow, all_nodes_serve}
use Rattle.gq_node.proofs.Volumes.{all_volumes_open}
use Rattle.gq_node.proofs.laws.nodes.Goals as goal

pub returns : goal.returns
returns c = record { follow = all_nodes_follow; serve = all_nodes_serve; volumes = all_volumes_open }
