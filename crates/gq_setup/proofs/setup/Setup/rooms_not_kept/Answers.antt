-- Each room is of a tenant that is there.
use Rattle.std.proofs.Common.{List, ◌<◌, length, sym, subst}
use Rattle.std.specs.List.{All}
use Rattle.gq_setup.specs.declared.openings.ChunkRoom.{ChunkRoom}
use Rattle.gq_setup.proofs.Rooms.{all_there}
use Rattle.gq_setup.proofs.setup.Setup.rooms_not_kept.Goals as goal

pub rooms_not_kept-requires : goal.rooms_not_kept-requires
rooms_not_kept-requires c =
    subst (λ (rooms : List ChunkRoom). All (λ (room : ChunkRoom). room.tenant < length c.old.inside.plan.rows) rooms) (sym c.as_slice-2.ensures.value) (all_there c.old.inside.plan c.old.inside.rooms.items c.old.invariant.2)
