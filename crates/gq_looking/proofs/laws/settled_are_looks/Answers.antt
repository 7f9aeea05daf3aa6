use Rattle.gq_looking.proofs.Settled.{settled_are_looks}
use Rattle.gq_looking.proofs.laws.settled_are_looks.Goals as goal

pub returns : goal.returns
returns c = settled_are_looks
