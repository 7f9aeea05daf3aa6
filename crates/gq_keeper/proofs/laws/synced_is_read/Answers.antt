use Rattle.gq_keeper.proofs.Journals.{synced_is_read}
use Rattle.gq_keeper.proofs.laws.synced_is_read.Goals as goal

pub returns : goal.returns
returns c = synced_is_read
