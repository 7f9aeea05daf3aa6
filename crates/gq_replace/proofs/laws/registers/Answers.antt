use Rattle.gq_replace.proofs.laws.registers.Goals as goal
use Rattle.gq_replace.proofs.Following.{all_right}

pub returns : goal.returns
returns c = all_right
