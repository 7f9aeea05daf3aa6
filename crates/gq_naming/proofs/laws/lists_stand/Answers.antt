use Rattle.gq_naming.proofs.LookSteps.{lists_stand}
use Rattle.gq_naming.proofs.laws.lists_stand.Goals as goal

pub returns : goal.returns
returns c = lists_stand
