use Rattle.std.proofs.Common.{◌≡◌, ◌++◌, drop}
use Rattle.gq_client.specs.Looking.{left_from}
use Rattle.gq_client.proofs.client.unknown_pages.Given as goal

abbrev pub invariant-loop-place : goal.invariant-loop-place
invariant-loop-place l = l.left.items ++ left_from l.place l.own l.session l.tags (drop l.place l.seen) ≡ left_from 0 l.own l.session l.tags l.seen
