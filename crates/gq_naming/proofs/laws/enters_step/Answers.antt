use Rattle.gq_naming.proofs.LookSteps.{enters_step}
use Rattle.gq_naming.proofs.laws.enters_step.Goals as goal

pub returns : goal.returns
returns c = enters_step
