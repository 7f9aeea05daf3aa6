-- The lines of those who are gone so far.
use Rattle.std.proofs.Common.{◌≡◌, ◌++◌, take}
use Rattle.gq_plan.specs.PlanWords.{gone_text}
use Rattle.gq_plan.proofs.told.put_gone.Given as goal

abbrev pub invariant-loop-name : goal.invariant-loop-name
invariant-loop-name l = l.out.items ≡ l.fn.out.items ++ gone_text (take l.name-index l.names)
