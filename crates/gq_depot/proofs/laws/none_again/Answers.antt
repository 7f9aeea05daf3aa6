use Rattle.gq_depot.proofs.Segments.{none_again}
use Rattle.gq_depot.proofs.laws.none_again.Goals as goal

pub returns : goal.returns
returns c = none_again
