use Rattle.std.proofs.Common.{refl}
use Rattle.gq_names.proofs.laws.contents_worked.Goals as goal
use Rattle.gq_names.proofs.WorkedContents.{may_worked}

pub returns : goal.returns
returns c = record { may = may_worked; told = refl; forgotten = refl }
