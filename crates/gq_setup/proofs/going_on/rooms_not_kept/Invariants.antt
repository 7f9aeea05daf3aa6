use Rattle.std.proofs.Common.{◌≡◌, drop}
use Rattle.gq_setup.specs.GoingOn.{rooms_kept, rooms_go_on}
use Rattle.gq_setup.proofs.going_on.rooms_not_kept.Given as goal

abbrev pub invariant-loop-room : goal.invariant-loop-room
invariant-loop-room l = rooms_kept l.gone l.plan l.olds l.news (drop l.room-index l.olds) ≡ rooms_go_on l.gone l.plan l.olds l.news
