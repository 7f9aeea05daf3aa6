use Rattle.gq_stock.proofs.Deeds.{kept_until_forgotten}
use Rattle.gq_stock.proofs.laws.kept_until_forgotten.Goals as goal

pub returns : goal.returns
returns c = kept_until_forgotten
