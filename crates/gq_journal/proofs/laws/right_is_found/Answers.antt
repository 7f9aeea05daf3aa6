use Rattle.gq_journal.proofs.ReadBack.{right_is_found}
use Rattle.gq_journal.proofs.laws.right_is_found.Goals as goal

pub returns : goal.returns
returns c = right_is_found
