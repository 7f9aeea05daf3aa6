use Rattle.gq_setup.proofs.Staying.{losses_stay, times_grow_on, nodes_grow, sessions_grow}
use Rattle.gq_setup.proofs.laws.losses_stay.Goals as goal

pub returns : goal.returns
returns c = record { losses = losses_stay; times = times_grow_on; nodes = nodes_grow; sessions = sessions_grow }
