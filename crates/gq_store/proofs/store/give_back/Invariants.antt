use Rattle.std.proofs.Common.{◌≡◌, ◌+◌, vec_len}
use Rattle.std.specs.List.{sum_by}
use Rattle.gq_store.specs.Copies.{tenant_taken}
use Rattle.gq_store.proofs.store.give_back.Given as goal

abbrev pub invariant-loop-tenant : goal.invariant-loop-tenant
invariant-loop-tenant l = l.pool + sum_by tenant_taken l.tenants.items ≡ l.initial.pool + sum_by tenant_taken l.initial.tenants.items

abbrev pub decreases-loop-tenant : goal.decreases-loop-tenant
decreases-loop-tenant l = vec_len l.tenants
