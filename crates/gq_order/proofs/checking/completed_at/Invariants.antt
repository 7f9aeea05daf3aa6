-- The count goes on with the places that are left.
use Rattle.std.proofs.Common.{◌≡◌, ◌+◌, ◌≤◌, drop}
use Rattle.gq_order.specs.Walk.{completed_at}
use Rattle.gq_order.proofs.checking.completed_at.Given as goal

abbrev pub invariant-loop-place : goal.invariant-loop-place
invariant-loop-place l = record {
  counted : l.count + completed_at l.ops (drop l.place-index l.order) ≡ completed_at l.ops l.order;
  few : l.count ≤ l.place-index;
}
