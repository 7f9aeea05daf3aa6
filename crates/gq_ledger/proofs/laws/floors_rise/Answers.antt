use Rattle.gq_ledger.proofs.Steps.{floors_rise}
use Rattle.gq_ledger.proofs.laws.floors_rise.Goals as goal

pub returns : goal.returns
returns c d = floors_rise
