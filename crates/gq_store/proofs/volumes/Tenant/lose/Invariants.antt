use Rattle.std.proofs.Common.{◌≡◌, ◌+◌, map}
use Rattle.std.specs.List.{sum_by}
use Rattle.gq_store.specs.Copies.{volume_taken, lost_volume}
use Rattle.gq_store.proofs.Mixed.{mixed}
use Rattle.gq_store.proofs.volumes.Tenant.lose.Given as goal

-- the volumes before the index are lost, and what they took is free
abbrev pub invariant-loop-volume : goal.invariant-loop-volume
invariant-loop-volume l =
    (l.volume-items ≡ mixed l.initial.volume-items (map lost_volume l.initial.volume-items) l.volume-index)
    × (l.pool + sum_by volume_taken l.volume-items ≡ l.initial.pool + sum_by volume_taken l.initial.volume-items)
