use Rattle.gq_stock.proofs.Acts.{deeds_are_acts}
use Rattle.gq_stock.proofs.laws.deeds_are_acts.Goals as goal

pub returns : goal.returns
returns c = deeds_are_acts
