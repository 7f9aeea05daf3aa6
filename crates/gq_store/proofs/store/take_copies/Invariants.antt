use Rattle.std.proofs.Common.{◌≡◌, ◌+◌, ◌≤◌, drop}
use Rattle.std.specs.List.{sum_by}
use Rattle.gq_store.specs.Copies.{tenant_taken}
use Rattle.gq_store.proofs.Mixed.{mixed}
use Rattle.gq_store.proofs.store.take_copies.Given as goal

-- the tenants before the index have the peers' copies, and there is room for the others'
abbrev pub invariant-loop-place : goal.invariant-loop-place
invariant-loop-place l =
    (l.tenants ≡ mixed l.initial.tenants l.peers l.place)
    × (l.pool + sum_by tenant_taken l.tenants ≡ l.initial.pool + sum_by tenant_taken l.initial.tenants)
    × (sum_by tenant_taken (drop l.place l.peers) ≤ l.pool)
