use Rattle.gq_names.proofs.laws.split_contents_are_there.Goals as goal
use Rattle.gq_names.proofs.SplitContents.{all_split_shown_are_there}

pub returns : goal.returns
returns c = all_split_shown_are_there
