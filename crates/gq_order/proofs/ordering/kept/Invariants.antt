-- The places so far, and those of the keys that are left.
use Rattle.std.proofs.Common.{◌≡◌, ◌++◌, drop}
use Rattle.gq_order.specs.Keys.{kept}
use Rattle.gq_order.proofs.ordering.kept.Given as goal

abbrev pub invariant-loop-m : goal.invariant-loop-m
invariant-loop-m l = l.order.items ++ kept l.ops (drop l.m l.keys) ≡ kept l.ops l.keys
