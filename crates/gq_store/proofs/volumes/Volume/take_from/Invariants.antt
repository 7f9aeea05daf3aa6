use Rattle.std.proofs.Common.{◌≡◌, ◌+◌, ◌≤◌, drop}
use Rattle.std.specs.List.{sum_by}
use Rattle.gq_store.specs.Copies.{taken}
use Rattle.gq_store.proofs.Mixed.{mixed}
use Rattle.gq_store.proofs.volumes.Volume.take_from.Given as goal

-- the copies before the index are the peer's, and there is room for the others
abbrev pub invariant-loop-file : goal.invariant-loop-file
invariant-loop-file l =
    (l.entry-items ≡ mixed l.initial.entry-items l.peer-inside.files.items l.file)
    × (l.pool + sum_by taken l.entry-items ≡ l.initial.pool + sum_by taken l.initial.entry-items)
    × (sum_by taken (drop l.file l.peer-inside.files.items) ≤ l.pool)
