use Rattle.std.proofs.Common.{◌≡◌, drop}
use Rattle.gq_setup.specs.Setups.{kib_of}
use Rattle.gq_setup.proofs.openings.kib_of.Given as goal

abbrev pub invariant-loop-room : goal.invariant-loop-room
invariant-loop-room l = kib_of (drop l.room-index l.rooms) l.tenant ≡ kib_of l.rooms l.tenant
