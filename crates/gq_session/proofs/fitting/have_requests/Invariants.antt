use Rattle.std.proofs.Common.{ℕ, ◌<◌}
use Rattle.gq_session.specs.Fitting.{HasRequests}
use Rattle.gq_session.proofs.fitting.have_requests.Given as goal

abbrev pub invariant-loop-place : goal.invariant-loop-place
invariant-loop-place l = (k : ℕ) → k < l.place → HasRequests l.ids l.programs k
