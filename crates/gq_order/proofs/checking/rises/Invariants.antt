-- What is left to be tested is the rest of the list, after the last place.
use Rattle.std.proofs.Common.{◌≡◌, drop}
use Rattle.gq_order.specs.Walk.{rises, rises_after}
use Rattle.gq_order.proofs.checking.rises.Given as goal

abbrev pub invariant-loop-place : goal.invariant-loop-place
invariant-loop-place l = rises_after l.ops l.last (drop l.place-index l.order) ≡ rises l.ops l.order
