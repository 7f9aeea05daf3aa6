use Rattle.std.proofs.Common.{◌≡◌, ◌+◌, drop}
use Rattle.gq_runs.specs.Programs.{steps_fault}
use Rattle.gq_runs.proofs.programs.steps_fault.Given as goal

abbrev pub invariant-loop-place : goal.invariant-loop-place
invariant-loop-place l = steps_fault 3 l.rows ≡ steps_fault (3 + l.place) (drop l.place l.rows)
