use Rattle.gq_replace.proofs.laws.follows.Goals as goal
use Rattle.gq_replace.proofs.Following.{all_follow}

pub returns : goal.returns
returns c = all_follow
