use Rattle.gq_naming.proofs.LookSteps.{reads_step}
use Rattle.gq_naming.proofs.laws.reads_step.Goals as goal

pub returns : goal.returns
returns c = reads_step
