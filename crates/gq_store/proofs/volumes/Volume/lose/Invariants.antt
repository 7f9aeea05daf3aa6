use Rattle.std.proofs.Common.{◌≡◌, ◌+◌, map}
use Rattle.std.specs.List.{sum_by}
use Rattle.gq_tag.specs.Tag.{first_copy}
use Rattle.gq_store.specs.Copies.{taken}
use Rattle.gq_store.proofs.Mixed.{mixed}
use Rattle.gq_store.proofs.volumes.Volume.lose.Given as goal

-- the copies before the index are lost, and what they took is free
abbrev pub invariant-loop-entry : goal.invariant-loop-entry
invariant-loop-entry l =
    (l.entry-items ≡ mixed l.initial.entry-items (map (λ copy. first_copy) l.initial.entry-items) l.entry-index)
    × (l.pool + sum_by taken l.entry-items ≡ l.initial.pool + sum_by taken l.initial.entry-items)
