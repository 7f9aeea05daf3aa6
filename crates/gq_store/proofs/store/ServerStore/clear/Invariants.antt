use Rattle.std.proofs.Common.{◌≡◌, ◌+◌, vec_len}
use Rattle.std.specs.List.{sum_by}
use Rattle.gq_store.specs.Copies.{tenant_taken}
use Rattle.gq_store.proofs.store.ServerStore.clear.Given as goal

abbrev pub invariant-loop-tenant : goal.invariant-loop-tenant
invariant-loop-tenant l = record {
  blocks : l.self-inside.blocks ≡ l.initial.self-inside.blocks;
  balance : l.self-inside.pool + sum_by tenant_taken l.self-inside.tenants.items ≡ l.initial.self-inside.pool + sum_by tenant_taken l.initial.self-inside.tenants.items;
}

abbrev pub decreases-loop-tenant : goal.decreases-loop-tenant
decreases-loop-tenant l = vec_len l.self-inside.tenants
