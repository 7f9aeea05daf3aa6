-- None of those so far has the number.
use Rattle.std.proofs.Common.{length, take, ◌-◌}
use Rattle.gq_depot.proofs.Settling.{HasNone}
use Rattle.gq_depot.proofs.seeking.place_of.Given as goal

abbrev pub invariant-loop-place : goal.invariant-loop-place
invariant-loop-place l = HasNone l.number (take l.place l.left)

abbrev pub decreases-loop-place : goal.decreases-loop-place
decreases-loop-place l = length l.left - l.place
