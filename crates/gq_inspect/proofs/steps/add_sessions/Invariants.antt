use Rattle.std.proofs.Common.{◌≡◌, ◌++◌, drop}
use Rattle.gq_inspect.specs.Steps.{sessions_steps}
use Rattle.gq_inspect.proofs.steps.add_sessions.Given as goal

abbrev pub invariant-loop-session : goal.invariant-loop-session
invariant-loop-session l = l.all.items ++ sessions_steps l.session (drop l.session l.sessions) ≡ l.initial.all.items ++ sessions_steps 0 l.sessions
