-- Those so far, and those of the operations that are left.
use Rattle.std.proofs.Common.{◌≡◌, ◌++◌, drop}
use Rattle.gq_laws.specs.Operations.{ops_at}
use Rattle.gq_picture.specs.Columns.{latest, latest_from}
use Rattle.gq_picture.proofs.places.latest.Given as goal

abbrev pub invariant-loop-place : goal.invariant-loop-place
invariant-loop-place l = l.places.items ++ latest_from l.last (ops_at l.ops (drop l.place-index l.order)) ≡ latest (ops_at l.ops l.order)
