use Rattle.gq_stock.proofs.Deeds.{below_the_floor}
use Rattle.gq_stock.proofs.laws.below_the_floor.Goals as goal

pub returns : goal.returns
returns c = below_the_floor
