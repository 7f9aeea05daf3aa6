use Rattle.gq_splitting.proofs.PartsShow.{parts_show}
use Rattle.gq_splitting.proofs.laws.parts_show.Goals as goal

pub returns : goal.returns
returns c = parts_show
