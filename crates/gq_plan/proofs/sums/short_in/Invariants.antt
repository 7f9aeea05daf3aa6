-- The short chunks of the tenants so far.
use Rattle.std.proofs.Common.{◌≡◌, ◌*◌, ◌≤◌}
use Rattle.std.specs.Prelude.{sum_by}
use Rattle.std.specs.List.{range_with_len}
use Rattle.gq_stock.specs.declared.limits.TheConstants.{MOST_FRESH_BYTES}
use Rattle.gq_plan.specs.PlanWords.{short_of}
use Rattle.gq_plan.proofs.sums.short_in.Given as goal

abbrev pub invariant-loop-tenant : goal.invariant-loop-tenant
invariant-loop-tenant l = record {
  told : l.short ≡ sum_by (λ t. short_of l.setup t) (range_with_len 0 l.tenant);
  bound : l.short ≤ l.tenant * MOST_FRESH_BYTES;
}
