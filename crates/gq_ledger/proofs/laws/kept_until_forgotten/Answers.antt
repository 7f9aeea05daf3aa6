use Rattle.gq_ledger.proofs.Steps.{kept_until_forgotten}
use Rattle.gq_ledger.proofs.laws.kept_until_forgotten.Goals as goal

pub returns : goal.returns
returns c d = kept_until_forgotten
