use Rattle.gq_wire.proofs.ShortsBack.{shorts_read_back}
use Rattle.gq_wire.proofs.laws.shorts_read_back.Goals as goal

pub returns : goal.returns
returns c = shorts_read_back
