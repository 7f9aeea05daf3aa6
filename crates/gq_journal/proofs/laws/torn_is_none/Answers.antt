use Rattle.gq_journal.proofs.ReadBack.{torn_is_none}
use Rattle.gq_journal.proofs.laws.torn_is_none.Goals as goal

pub returns : goal.returns
returns c = torn_is_none
