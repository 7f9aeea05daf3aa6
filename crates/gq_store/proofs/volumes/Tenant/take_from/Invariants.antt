use Rattle.std.proofs.Common.{◌≡◌, ◌+◌, ◌≤◌, drop}
use Rattle.std.specs.List.{sum_by}
use Rattle.gq_store.specs.Copies.{volume_taken}
use Rattle.gq_store.proofs.Mixed.{mixed}
use Rattle.gq_store.proofs.volumes.Tenant.take_from.Given as goal

-- the volumes before the index are the peer's, and there is room for the others
abbrev pub invariant-loop-number : goal.invariant-loop-number
invariant-loop-number l =
    (l.volume-items ≡ mixed l.initial.volume-items l.peer-inside.volumes.items l.number)
    × (l.pool + sum_by volume_taken l.volume-items ≡ l.initial.pool + sum_by volume_taken l.initial.volume-items)
    × (sum_by volume_taken (drop l.number l.peer-inside.volumes.items) ≤ l.pool)
