use Rattle.std.proofs.Common.{ℕ, ◌<◌, get_or}
use Rattle.gq_model.specs.declared.events.ServerLine.{ServerLine}
use Rattle.gq_session.specs.Fitting.{IsChange}
use Rattle.gq_session.proofs.fitting.are_changes.Given as goal

abbrev pub invariant-loop-place : goal.invariant-loop-place
invariant-loop-place l = (k : ℕ) (d : ServerLine) → k < l.place → IsChange l.grid (get_or l.changes k d)
