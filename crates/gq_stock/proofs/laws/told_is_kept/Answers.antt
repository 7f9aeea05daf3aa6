use Rattle.gq_stock.proofs.Deeds.{told_is_kept}
use Rattle.gq_stock.proofs.laws.told_is_kept.Goals as goal

pub returns : goal.returns
returns c = told_is_kept
