use Rattle.gq_setup.proofs.Staying.{rooms_grow_on}
use Rattle.gq_setup.proofs.laws.rooms_grow.Goals as goal

pub returns : goal.returns
returns c = rooms_grow_on
