-- The runs that have ended, and one that may go on.
use Rattle.std.proofs.Common.{◌≡◌, ◌++◌, ◌+◌, ◌≤◌, drop, length}
use Rattle.gq_plan.specs.PlanWords.{one_run, runs_from}
use Rattle.gq_plan.proofs.runs.runs_from.Given as goal

abbrev pub invariant-loop-volume : goal.invariant-loop-volume
invariant-loop-volume l = record {
  told : l.runs.items ++ runs_from l.run (drop l.volume-index l.volumes) ≡ runs_from (one_run l.first) l.volumes;
  many : l.run.times ≤ l.volume-index + 1;
  few : length l.runs.items ≤ l.volume-index;
}
