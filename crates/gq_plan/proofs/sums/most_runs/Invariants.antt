-- The most runs of the tenants so far.
use Rattle.std.proofs.Common.{◌≡◌, ◌≤◌, length, map}
use Rattle.std.specs.List.{range_with_len}
use Rattle.gq_desk.specs.declared.limits.TheConstants.{MOST_VOLUMES}
use Rattle.gq_plan.specs.PlanWords.{greatest, runs_of, volumes_of}
use Rattle.gq_plan.proofs.sums.most_runs.Given as goal

abbrev pub invariant-loop-tenant : goal.invariant-loop-tenant
invariant-loop-tenant l = record {
  told : l.most ≡ greatest (map (λ t. length (runs_of (volumes_of l.setup t))) (range_with_len 0 l.tenant));
  few : l.most ≤ MOST_VOLUMES;
}
