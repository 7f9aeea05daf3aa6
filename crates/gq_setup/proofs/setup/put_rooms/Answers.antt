use Rattle.gq_lines.proofs.Extending.{extends_more, on_err}
use Rattle.gq_setup.proofs.setup.put_rooms.Goals as goal

pub returns-in_err-put_room-clause-err : goal.returns-in_err-put_room-clause-err
returns-in_err-put_room-clause-err c = on_err _ (extends_more _ _ _ _ c.loop-room.invariant c.in_err-put_room.ensures.err)
