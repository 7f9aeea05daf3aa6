use Rattle.std.proofs.Common.{◌/◌, length, take, drop, sym, ap, ◌∙◌}
use Rattle.std.proofs.lemmas.List.{take-append-drop}
use Rattle.gq_keeper.specs.Notes.{appended}
use Rattle.gq_keeper.proofs.Noted.{note_part}
use Rattle.gq_keeper.proofs.memory.MemoryDiskLog.append.Goals as goal

pub returns-then-not-goes-clause-crash : goal.returns-then-not-goes-clause-crash
returns-then-not-goes-clause-crash c =
    note_part c.args.self.now.notes.instants c.put.new.self.notes.instants c.args.bytes.now (take (length c.args.bytes.now / 2) c.args.bytes.now) (drop (length c.args.bytes.now / 2) c.args.bytes.now)
    (c.in_ok-put.ensures.ok ∙ ap (λ n. appended (take (length c.args.bytes.now / 2) c.args.bytes.now) n.instants) c.goes.ensures.notes) (sym (take-append-drop (length c.args.bytes.now / 2) c.args.bytes.now))
