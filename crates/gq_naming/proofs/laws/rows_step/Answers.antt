use Rattle.gq_naming.proofs.LookSteps.{rows_step}
use Rattle.gq_naming.proofs.laws.rows_step.Goals as goal

pub returns : goal.returns
returns c = rows_step
