use Rattle.std.proofs.Common.{refl}
use Rattle.gq_names.proofs.laws.split_contents_worked.Goals as goal
use Rattle.gq_names.proofs.WorkedSplits.{may_split}

pub returns : goal.returns
returns c = record { may = may_split; told = refl; forgotten = refl; shows = refl; shows_too = refl }
