use Rattle.std.proofs.Common.{◌≡◌, ◌++◌, drop}
use Rattle.gq_inspect.specs.Steps.{session_steps}
use Rattle.gq_inspect.proofs.steps.add_session.Given as goal

abbrev pub invariant-loop-at : goal.invariant-loop-at
invariant-loop-at l = l.all.items ++ session_steps l.session l.at (drop l.at l.entries) ≡ l.initial.all.items ++ session_steps l.session 0 l.entries
