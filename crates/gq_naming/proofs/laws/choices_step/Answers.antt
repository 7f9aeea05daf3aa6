use Rattle.gq_naming.proofs.ClientSteps.{choices_step}
use Rattle.gq_naming.proofs.laws.choices_step.Goals as goal

pub returns : goal.returns
returns c = choices_step
