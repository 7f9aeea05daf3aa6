use Rattle.gq_journal.proofs.ReadBack.{batches_read_back}
use Rattle.gq_journal.proofs.laws.batches_read_back.Goals as goal

pub returns : goal.returns
returns c = batches_read_back
