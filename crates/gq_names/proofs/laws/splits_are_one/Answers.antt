use Rattle.gq_names.proofs.laws.splits_are_one.Goals as goal
use Rattle.gq_names.proofs.Splitting.{all_splits_legal}

pub returns : goal.returns
returns c = all_splits_legal
