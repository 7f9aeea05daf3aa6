use Rattle.gq_keeper.proofs.Noted.{note_cut}
use Rattle.gq_keeper.proofs.files.FileDiskDisk.cut.Goals as goal

pub returns-clause-crash : goal.returns-clause-crash
returns-clause-crash g c = note_cut c.args.self.now.notes.instants _ _ c.args.len c.may_be_cut.ensures c.is_cut.ensures
