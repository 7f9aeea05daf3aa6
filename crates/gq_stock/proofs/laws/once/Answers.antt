use Rattle.gq_stock.proofs.Deeds.{once}
use Rattle.gq_stock.proofs.laws.once.Goals as goal

pub returns : goal.returns
returns c = once
