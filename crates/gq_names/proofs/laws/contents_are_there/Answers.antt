use Rattle.gq_names.proofs.laws.contents_are_there.Goals as goal
use Rattle.gq_names.proofs.Contents.{all_shown_are_there, all_told_were_kept}

pub returns-clause-shown : goal.returns-clause-shown
returns-clause-shown c = all_shown_are_there

pub returns-clause-told : goal.returns-clause-told
returns-clause-told c = all_told_were_kept
