-- The lines of the tenants so far.
use Rattle.std.proofs.Common.{◌≡◌, ◌++◌}
use Rattle.std.specs.List.{flat_map, range_with_len}
use Rattle.gq_plan.specs.PlanWords.{tenant_text}
use Rattle.gq_plan.proofs.told.put_tenants.Given as goal

abbrev pub invariant-loop-tenant : goal.invariant-loop-tenant
invariant-loop-tenant l = l.out.items ≡ l.fn.out.items ++ flat_map (tenant_text l.setup) (range_with_len 0 l.tenant)
