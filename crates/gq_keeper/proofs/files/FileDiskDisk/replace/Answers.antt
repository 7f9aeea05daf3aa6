use Rattle.gq_keeper.proofs.Noted.{note_replaced}
use Rattle.gq_keeper.proofs.files.FileDiskDisk.replace.Goals as goal

pub returns-clause-crash : goal.returns-clause-crash
returns-clause-crash g c = note_replaced c.args.self.now.notes.instants _ _ c.args.bytes.now c.may_be_replaced.ensures c.is_replaced.ensures
