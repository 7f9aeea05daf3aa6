use Rattle.gq_names.proofs.laws.pages_stay_free.Goals as goal
use Rattle.gq_names.proofs.Contents.{all_stay_free}

pub returns : goal.returns
returns c = all_stay_free
