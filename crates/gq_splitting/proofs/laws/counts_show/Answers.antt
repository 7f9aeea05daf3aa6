use Rattle.gq_splitting.proofs.PartsShow.{counts_show}
use Rattle.gq_splitting.proofs.laws.counts_show.Goals as goal

pub returns : goal.returns
returns c = counts_show
