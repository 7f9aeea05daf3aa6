-- A plan's row keeps to the most blocks of a file, and to the most volumes.
use Rattle.std.proofs.Common.{◌≡◌, Some, arith}
use Rattle.std.specs.Prelude.{slice_get}
use Rattle.std.proofs.lemmas.Grind.{common_steps}
use Rattle.std.proofs.lemmas.Option.{slice_get-get_or}
use Rattle.gq_desk.proofs.SoundRows.{row_numbers, row_most}
use Rattle.gq_desk.proofs.volumes.Desk.new.Goals as goal

pub new-requires-clause-blocks : goal.new-requires-clause-blocks
new-requires-clause-blocks c =
    let there : slice_get c.rows-row-items.result.now c.loop-row.row-index ≡ Some c.row-item.result =
    grind (arith, common_steps, slice_get-get_or) in
    (row_most c.loop-row.row-index c.row-item.result (row_numbers c.args.plan.now.blocks c.rows-row-items.result.now c.loop-row.row-index c.row-item.result c.rows-row-items.ensures.sound.fault there)).0

pub new-requires-clause-volumes : goal.new-requires-clause-volumes
new-requires-clause-volumes c =
    let there : slice_get c.rows-row-items.result.now c.loop-row.row-index ≡ Some c.row-item.result =
    grind (arith, common_steps, slice_get-get_or) in
    (row_most c.loop-row.row-index c.row-item.result (row_numbers c.args.plan.now.blocks c.rows-row-items.result.now c.loop-row.row-index c.row-item.result c.rows-row-items.ensures.sound.fault there)).1
