use Rattle.gq_depot.proofs.Memory.{memory_is_bounded}
use Rattle.gq_depot.proofs.laws.memory_is_bounded.Goals as goal

pub returns : goal.returns
returns c = memory_is_bounded
