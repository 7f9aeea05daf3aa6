-- The count goes on with the operations that are left.
use Rattle.std.proofs.Common.{◌≡◌, ◌+◌, ◌≤◌, drop}
use Rattle.gq_order.specs.Walk.{completed}
use Rattle.gq_order.proofs.checking.completed.Given as goal

abbrev pub invariant-loop-a : goal.invariant-loop-a
invariant-loop-a l = record {
  counted : l.count + completed (drop l.a-index l.ops) ≡ completed l.ops;
  few : l.count ≤ l.a-index;
}
