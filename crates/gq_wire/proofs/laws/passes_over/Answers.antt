use Rattle.gq_wire.proofs.Others.{passes_over}
use Rattle.gq_wire.proofs.laws.passes_over.Goals as goal

pub returns : goal.returns
returns c = passes_over
