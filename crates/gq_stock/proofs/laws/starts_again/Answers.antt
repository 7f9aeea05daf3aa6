use Rattle.gq_stock.proofs.Restarts.{starts_again}
use Rattle.gq_stock.proofs.laws.starts_again.Goals as goal

pub returns : goal.returns
returns c = starts_again
