use Rattle.gq_journal.proofs.NoneRight.{cuts_have_none}
use Rattle.gq_journal.proofs.laws.cuts_have_none.Goals as goal

pub returns : goal.returns
returns c = cuts_have_none
