-- The world is one of the same plan.
use Rattle.std.proofs.Common.{◌≡◌}
use Rattle.try_calls.proofs.histories.answer_each.Given as goal

abbrev pub invariant-loop-event : goal.invariant-loop-event
invariant-loop-event l = l.world.tables.plan ≡ l.fn.world.tables.plan
