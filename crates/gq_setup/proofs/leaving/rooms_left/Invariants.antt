use Rattle.std.proofs.Common.{◌≡◌, take}
use Rattle.gq_setup.specs.Leaving.{rooms_left}
use Rattle.gq_setup.proofs.leaving.rooms_left.Given as goal

abbrev pub invariant-loop-room : goal.invariant-loop-room
invariant-loop-room l = l.left.items ≡ rooms_left l.gone l.plan (take l.room-index l.rooms)
