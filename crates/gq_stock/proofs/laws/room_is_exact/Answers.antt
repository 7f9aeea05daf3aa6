use Rattle.gq_stock.proofs.Deeds.{room_is_exact}
use Rattle.gq_stock.proofs.laws.room_is_exact.Goals as goal

pub returns : goal.returns
returns c = room_is_exact
