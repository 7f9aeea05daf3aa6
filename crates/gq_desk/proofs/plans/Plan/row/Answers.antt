-- The numbers of a checked plan's row are in their ranges.
use Rattle.std.proofs.Common.{◌≡◌, Some, arith}
use Rattle.std.specs.Prelude.{slice_get}
use Rattle.std.proofs.lemmas.Grind.{common_steps}
use Rattle.std.proofs.lemmas.Option.{slice_get-get_or}
use Rattle.gq_desk.proofs.SoundRows.{row_numbers}
use Rattle.gq_desk.proofs.plans.Plan.row.Goals as goal

pub returns-clause-ranges : goal.returns-clause-ranges
returns-clause-ranges c =
    let there : slice_get c.rows.result.now c.args.tenant ≡ Some c.index-rows-tenant.result =
    grind (arith, common_steps, slice_get-get_or) in
    row_numbers c.args.self.now.blocks c.rows.result.now c.args.tenant c.index-rows-tenant.result c.rows.ensures.sound.fault there
