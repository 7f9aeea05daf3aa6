use Rattle.std.proofs.Common.{◌≡◌, take}
use Rattle.std.specs.Prelude.{map}
use Rattle.gq_setup.specs.Texts.{opening_event}
use Rattle.gq_setup.proofs.setup.events_of.Given as goal

abbrev pub invariant-loop-opening : goal.invariant-loop-opening
invariant-loop-opening l = l.events.items ≡ map opening_event (take l.opening-index l.openings)
