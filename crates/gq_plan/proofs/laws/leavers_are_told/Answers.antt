use Rattle.gq_plan.proofs.Leavers.{leavers_told}
use Rattle.gq_plan.proofs.laws.leavers_are_told.Goals as goal

pub returns : goal.returns
returns c = leavers_told
