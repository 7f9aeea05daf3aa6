use Rattle.std.proofs.Common.{◌≡◌, ◌++◌}
use Rattle.gq_session.specs.Fitting.{numbered}
use Rattle.gq_session.proofs.fitting.add_sessions.Given as goal

abbrev pub invariant-loop-number : goal.invariant-loop-number
invariant-loop-number l = l.all.items ≡ l.initial.all.items ++ numbered l.tenant l.number
