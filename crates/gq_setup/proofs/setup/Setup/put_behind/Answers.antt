-- Each room is of a tenant that is there.
use Rattle.std.proofs.Common.{List, ◌<◌, length, sym, subst}
use Rattle.std.specs.List.{All}
use Rattle.std.proofs.lemmas.Result.{on_err_weaker}
use Rattle.gq_lines.proofs.Extending.{extends_more}
use Rattle.gq_setup.specs.declared.openings.ChunkRoom.{ChunkRoom}
use Rattle.gq_setup.proofs.Rooms.{all_there}
use Rattle.gq_setup.proofs.setup.Setup.put_behind.Goals as goal

pub put_rooms-requires : goal.put_rooms-requires
put_rooms-requires c =
    subst (λ (rooms : List ChunkRoom). All (λ (room : ChunkRoom). room.tenant < length c.self.inside.plan.rows) rooms) (sym c.as_slice.ensures.value) (all_there c.self.inside.plan c.self.inside.rooms.items c.self.invariant.2)

pub returns-clause-err : goal.returns-clause-err
returns-clause-err c = on_err_weaker c.put_end.result (extends_more _ _ _ _ c.in_ok-put_rooms.ensures.ok) c.put_end.ensures.err
