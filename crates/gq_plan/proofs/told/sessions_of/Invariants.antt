-- The sessions so far.
use Rattle.std.proofs.Common.{◌≡◌, ◌*◌, ◌^◌, ◌≤◌, take}
use Rattle.gq_plan.specs.PlanWords.{first_session}
use Rattle.gq_plan.proofs.told.sessions_of.Given as goal

abbrev pub invariant-loop-row : goal.invariant-loop-row
invariant-loop-row l = record {
  told : l.sessions ≡ first_session (take l.row-index l.rows);
  bound : l.sessions ≤ l.row-index * 2 ^ 32;
}
