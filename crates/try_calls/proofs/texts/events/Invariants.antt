-- The events so far are in the plan.
use Rattle.std.proofs.Common.{length}
use Rattle.std.specs.List.{All}
use Rattle.gq_model.specs.Events.{IsIn}
use Rattle.try_calls.proofs.texts.events.Given as goal

abbrev pub invariant-loop-rest : goal.invariant-loop-rest
invariant-loop-rest l = All (IsIn l.plan) l.events.items

abbrev pub decreases-loop-rest : goal.decreases-loop-rest
decreases-loop-rest l = length l.rest
