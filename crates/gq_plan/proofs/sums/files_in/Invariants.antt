-- The files of the tenants so far.
use Rattle.std.proofs.Common.{◌≡◌, ◌*◌, ◌^◌, ◌≤◌}
use Rattle.std.specs.Prelude.{sum_by}
use Rattle.std.specs.List.{range_with_len}
use Rattle.gq_plan.specs.PlanWords.{files_of, volumes_of}
use Rattle.gq_plan.proofs.sums.files_in.Given as goal

abbrev pub invariant-loop-tenant : goal.invariant-loop-tenant
invariant-loop-tenant l = record {
  told : l.files ≡ sum_by (λ t. files_of (volumes_of l.setup t)) (range_with_len 0 l.tenant);
  bound : l.files ≤ l.tenant * 2 ^ 48;
}
