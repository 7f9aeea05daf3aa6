use Rattle.gq_column.proofs.WorkedCase.{worked}
use Rattle.gq_column.proofs.laws.worked.Goals as goal

pub returns : goal.returns
returns c = worked
