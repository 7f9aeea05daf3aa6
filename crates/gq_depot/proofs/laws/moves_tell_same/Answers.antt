use Rattle.gq_depot.proofs.Moved.{moves_tell_same}
use Rattle.gq_depot.proofs.laws.moves_tell_same.Goals as goal

pub returns : goal.returns
returns c = moves_tell_same
