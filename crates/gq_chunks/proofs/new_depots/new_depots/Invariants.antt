-- The tenants so far.
use Rattle.std.proofs.Common.{◌≡◌, length}
use Rattle.gq_chunks.specs.Machines.{AreBare}
use Rattle.gq_chunks.proofs.new_depots.new_depots.Given as goal

abbrev pub invariant-loop-place : goal.invariant-loop-place
invariant-loop-place l = (length l.depots.items ≡ l.place) × AreBare l.setup l.first l.node l.depots.items
