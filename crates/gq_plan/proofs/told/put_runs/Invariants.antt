-- The lines of the runs so far.
use Rattle.std.proofs.Common.{◌≡◌, ◌++◌, take}
use Rattle.gq_plan.specs.PlanWords.{runs_text}
use Rattle.gq_plan.proofs.told.put_runs.Given as goal

abbrev pub invariant-loop-run : goal.invariant-loop-run
invariant-loop-run l = l.out.items ≡ l.fn.out.items ++ runs_text l.row.name (take l.run-index l.runs)
