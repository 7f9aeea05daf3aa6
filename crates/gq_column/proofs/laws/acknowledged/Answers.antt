use Rattle.gq_column.proofs.Law.{acknowledged}
use Rattle.gq_column.proofs.laws.acknowledged.Goals as goal

pub returns : goal.returns
returns c = acknowledged
