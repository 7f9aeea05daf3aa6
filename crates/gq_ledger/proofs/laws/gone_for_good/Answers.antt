use Rattle.gq_ledger.proofs.Steps.{gone_for_good}
use Rattle.gq_ledger.proofs.laws.gone_for_good.Goals as goal

pub returns : goal.returns
returns c d = gone_for_good
