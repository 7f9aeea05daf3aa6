use Rattle.gq_journal.proofs.Cuts.{cuts_keep_batches}
use Rattle.gq_journal.proofs.laws.cuts_keep_batches.Goals as goal

pub returns : goal.returns
returns c = cuts_keep_batches
