use Rattle.gq_plan.proofs.Running.{runs_tell}
use Rattle.gq_plan.proofs.laws.runs_tell_volumes.Goals as goal

pub returns : goal.returns
returns c = runs_tell
