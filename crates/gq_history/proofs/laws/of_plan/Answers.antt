use Rattle.gq_history.proofs.Processes.{all_of_plan}
use Rattle.gq_history.proofs.laws.of_plan.Goals as goal

pub returns : goal.returns
returns c = all_of_plan
