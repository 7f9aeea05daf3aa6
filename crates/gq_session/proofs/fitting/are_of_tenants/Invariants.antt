use Rattle.std.proofs.Common.{ℕ, ◌<◌, get_or}
use Rattle.gq_session.specs.declared.records.Opening.{Opening}
use Rattle.gq_session.proofs.fitting.are_of_tenants.Given as goal

abbrev pub invariant-loop-place : goal.invariant-loop-place
invariant-loop-place l = (k : ℕ) (d : Opening) → k < l.place → (get_or l.volumes k d).tenant < l.tenants
