use Rattle.std.proofs.Common.{ℕ, ◌<◌, get_or}
use Rattle.gq_model.specs.declared.events.Line.{Line}
use Rattle.gq_model.specs.Events.{IsRequestOf}
use Rattle.gq_session.proofs.fitting.are_requests_of.Given as goal

abbrev pub invariant-loop-place : goal.invariant-loop-place
invariant-loop-place l = (k : ℕ) (d : Line) → k < l.place → IsRequestOf l.number (get_or l.lines k d)
