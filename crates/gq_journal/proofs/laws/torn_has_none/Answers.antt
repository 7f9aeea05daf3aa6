use Rattle.gq_journal.proofs.NoneRight.{torn_has_none}
use Rattle.gq_journal.proofs.laws.torn_has_none.Goals as goal

pub returns : goal.returns
returns c = torn_has_none
