-- The tenant is in the plan.
use Rattle.gq_model.specs.Events.{IsIn}
use Rattle.try_calls.proofs.live.put_answers.Given as goal

abbrev pub invariant-loop-entry : goal.invariant-loop-entry
invariant-loop-entry l = IsIn l.plan l.event
