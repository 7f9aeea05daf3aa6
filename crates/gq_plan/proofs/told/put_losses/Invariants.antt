-- The lines of the losses so far.
use Rattle.std.proofs.Common.{◌≡◌, ◌++◌, take}
use Rattle.gq_plan.specs.PlanWords.{losses_text}
use Rattle.gq_plan.proofs.told.put_losses.Given as goal

abbrev pub invariant-loop-place : goal.invariant-loop-place
invariant-loop-place l = l.out.items ≡ l.fn.out.items ++ losses_text (take l.place-index l.places)
