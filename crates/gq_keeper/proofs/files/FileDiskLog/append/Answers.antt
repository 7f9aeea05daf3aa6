use Rattle.gq_keeper.proofs.Noted.{note_append}
use Rattle.gq_keeper.proofs.files.FileDiskLog.append.Goals as goal

pub returns-clause-crash : goal.returns-clause-crash
returns-clause-crash g c = note_append c.args.self.now.notes.instants _ c.args.bytes.now c.appends.ensures
