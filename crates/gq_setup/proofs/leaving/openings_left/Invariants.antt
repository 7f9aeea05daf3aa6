use Rattle.std.proofs.Common.{◌≡◌, take}
use Rattle.gq_setup.specs.Leaving.{openings_left}
use Rattle.gq_setup.proofs.leaving.openings_left.Given as goal

abbrev pub invariant-loop-opening : goal.invariant-loop-opening
invariant-loop-opening l = l.left.items ≡ openings_left l.gone l.plan (take l.opening-index l.openings)
