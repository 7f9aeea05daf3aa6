use Rattle.gq_keeper.proofs.Noted.{note_sync}
use Rattle.gq_keeper.proofs.files.FileDiskLog.sync.Goals as goal

pub returns-clause-crash : goal.returns-clause-crash
returns-clause-crash g c = note_sync c.args.self.now.notes.instants _ c.makes_sure.ensures
