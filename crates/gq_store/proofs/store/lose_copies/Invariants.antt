use Rattle.std.proofs.Common.{◌≡◌, ◌+◌, map}
use Rattle.std.specs.List.{sum_by}
use Rattle.gq_store.specs.Copies.{tenant_taken, lost_tenant}
use Rattle.gq_store.proofs.Mixed.{mixed}
use Rattle.gq_store.proofs.store.lose_copies.Given as goal

-- the tenants before the index have lost their copies, and what these took is free
abbrev pub invariant-loop-tenant : goal.invariant-loop-tenant
invariant-loop-tenant l =
    (l.tenants ≡ mixed l.initial.tenants (map lost_tenant l.initial.tenants) l.tenant-index)
    × (l.pool + sum_by tenant_taken l.tenants ≡ l.initial.pool + sum_by tenant_taken l.initial.tenants)
