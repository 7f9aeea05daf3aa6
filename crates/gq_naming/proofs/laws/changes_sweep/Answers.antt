use Rattle.gq_naming.proofs.ChangesStep.{changes_sweep}
use Rattle.gq_naming.proofs.laws.changes_sweep.Goals as goal

pub returns : goal.returns
returns c = changes_sweep
