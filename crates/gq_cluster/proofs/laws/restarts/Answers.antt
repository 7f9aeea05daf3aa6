use Rattle.gq_cluster.proofs.laws.restarts.Goals as goal
use Rattle.gq_cluster.proofs.Restarting.{all_restarts_give_up}

pub returns : goal.returns
returns c = all_restarts_give_up
