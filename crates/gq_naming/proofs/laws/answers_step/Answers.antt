use Rattle.gq_naming.proofs.ClientSteps.{answers_step}
use Rattle.gq_naming.proofs.laws.answers_step.Goals as goal

pub returns : goal.returns
returns c = answers_step
