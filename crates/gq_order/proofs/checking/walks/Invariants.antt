-- What is left to be tested is the rest of the list, from here on.
use Rattle.std.proofs.Common.{◌≡◌, drop, []}
use Rattle.gq_order.specs.Walk.{walks}
use Rattle.gq_order.proofs.checking.walks.Given as goal

abbrev pub invariant-loop-place : goal.invariant-loop-place
invariant-loop-place l = walks l.ops (drop l.place-index l.order) l.begun l.content ≡ walks l.ops l.order 0 []
