-- The lines of the sessions so far.
use Rattle.std.proofs.Common.{◌≡◌, ◌++◌}
use Rattle.std.specs.List.{flat_map, range_with_len}
use Rattle.gq_desk.specs.CheckedPlan.{row_at}
use Rattle.gq_node.specs.Sites.{home_place}
use Rattle.gq_plan.specs.PlanWords.{session_line}
use Rattle.gq_plan.proofs.told.put_sessions.Given as goal

abbrev pub invariant-loop-place : goal.invariant-loop-place
invariant-loop-place l = l.out.items ≡ l.fn.out.items ++ flat_map (λ place. session_line (row_at l.plan l.tenant).name place (home_place l.plan l.tenant place)) (range_with_len 0 l.place)
