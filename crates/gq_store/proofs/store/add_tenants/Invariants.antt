use Rattle.std.proofs.Common.{◌≡◌, ◌+◌, ◌++◌, map, take, vec_len, vec_capacity}
use Rattle.gq_store.specs.Copies.{new_tenant}
use Rattle.gq_store.proofs.store.add_tenants.Given as goal

abbrev pub invariant-loop-row : goal.invariant-loop-row
invariant-loop-row l =
    (l.tenants.items ≡ l.initial.tenants.items ++ map new_tenant (take l.row-index l.rows))
    × (vec_len l.tenants ≡ vec_len l.initial.tenants + l.row-index)
    × (vec_capacity l.tenants ≡ vec_capacity l.initial.tenants)
