use Rattle.gq_naming.proofs.ChangesStep.{changes_step}
use Rattle.gq_naming.proofs.laws.changes_step.Goals as goal

pub returns : goal.returns
returns c = changes_step
