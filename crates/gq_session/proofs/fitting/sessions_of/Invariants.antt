use Rattle.std.proofs.Common.{◌≡◌}
use Rattle.gq_session.specs.Fitting.{sessions_below}
use Rattle.gq_session.proofs.fitting.sessions_of.Given as goal

abbrev pub invariant-loop-tenant : goal.invariant-loop-tenant
invariant-loop-tenant l = l.all.items ≡ sessions_below l.plan l.tenant
