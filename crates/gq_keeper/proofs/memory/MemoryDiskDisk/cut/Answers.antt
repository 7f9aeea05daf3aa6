use Rattle.std.proofs.Common.{ap, ◌∙◌}
use Rattle.gq_keeper.proofs.Noted.{note_cut}
use Rattle.gq_keeper.proofs.memory.MemoryDiskDisk.cut.Goals as goal

pub returns-then-not-goes-clause-crash : goal.returns-then-not-goes-clause-crash
returns-then-not-goes-clause-crash c = note_cut c.args.self.now.notes.instants _ _ c.args.len c.may_be_cut.ensures (ap (λ n. n.instants) c.goes.ensures.notes ∙ c.is_cut.ensures)

pub returns-clause-crash : goal.returns-clause-crash
returns-clause-crash c = note_cut c.args.self.now.notes.instants _ _ c.args.len c.may_be_cut.ensures (ap (λ n. n.instants) c.goes.ensures.notes ∙ c.is_cut.ensures)
