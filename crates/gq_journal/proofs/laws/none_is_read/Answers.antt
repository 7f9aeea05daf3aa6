use Rattle.gq_journal.proofs.NoneRight.{none_is_read}
use Rattle.gq_journal.proofs.laws.none_is_read.Goals as goal

pub returns : goal.returns
returns c = none_is_read
