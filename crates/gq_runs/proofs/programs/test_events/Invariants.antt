use Rattle.std.proofs.Common.{◌≡◌, ◌+◌, length, drop}
use Rattle.gq_runs.specs.Programs.{first_fault, new_desk}
use Rattle.gq_runs.proofs.programs.test_events.Given as goal

abbrev pub invariant-loop-place : goal.invariant-loop-place
invariant-loop-place l = record {
  accounts : length l.desk ≡ length l.plan.rows;
  same : first_fault l.plan (new_desk l.plan) l.first l.events ≡ first_fault l.plan l.desk (l.first + l.place) (drop l.place l.events);
}
