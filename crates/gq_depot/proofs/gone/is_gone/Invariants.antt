-- None of those so far has the number.
use Rattle.std.proofs.Common.{◌≡◌, false, take}
use Rattle.gq_depot.specs.Depots.{is_gone}
use Rattle.gq_depot.proofs.gone.is_gone.Given as goal

abbrev pub invariant-loop-one : goal.invariant-loop-one
invariant-loop-one l = is_gone (take l.one-index l.gone) l.place l.number ≡ false
