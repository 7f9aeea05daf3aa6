use Rattle.std.proofs.Common.{◌≡◌, ◌++◌, take}
use Rattle.std.specs.List.{flat_map}
use Rattle.gq_setup.specs.Texts.{room_line}
use Rattle.gq_setup.proofs.setup.put_rooms.Given as goal

abbrev pub invariant-loop-room : goal.invariant-loop-room
invariant-loop-room l = l.out.items ≡ l.fn.out.items ++ flat_map (room_line l.plan) (take l.room-index l.rooms)
