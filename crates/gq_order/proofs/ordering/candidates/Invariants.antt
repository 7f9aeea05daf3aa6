-- The keys so far, and those of the operations that are left.
use Rattle.std.proofs.Common.{◌≡◌, ◌++◌, drop}
use Rattle.gq_order.specs.Keys.{candidates}
use Rattle.gq_order.proofs.ordering.candidates.Given as goal

abbrev pub invariant-loop-place : goal.invariant-loop-place
invariant-loop-place l = l.keys.items ++ candidates l.place (drop l.place l.ops) ≡ candidates 0 l.ops
