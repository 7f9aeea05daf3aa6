use Rattle.gq_journal.proofs.ReadBack.{torn_end_is_passed_over}
use Rattle.gq_journal.proofs.laws.torn_end_is_passed_over.Goals as goal

pub returns : goal.returns
returns c = torn_end_is_passed_over
