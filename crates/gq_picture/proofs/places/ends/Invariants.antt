-- Those so far, and those of the operations that are left.
use Rattle.std.proofs.Common.{◌≡◌, ◌++◌, drop}
use Rattle.gq_laws.specs.Operations.{ops_at}
use Rattle.gq_picture.specs.Columns.{ends}
use Rattle.gq_picture.proofs.places.ends.Given as goal

abbrev pub invariant-loop-place : goal.invariant-loop-place
invariant-loop-place l = l.places.items ++ ends (ops_at l.ops (drop l.place-index l.order)) ≡ ends (ops_at l.ops l.order)
