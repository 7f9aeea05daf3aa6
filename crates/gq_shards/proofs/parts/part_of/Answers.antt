use Rattle.std.proofs.Common.{◌∙◌, ap}
use Rattle.gq_desk.specs.CheckedPlan.{CheckedPlan}
use Rattle.gq_shards.specs.Shards.{part_rows}
use Rattle.gq_shards.proofs.PartPlans.{is_part}
use Rattle.gq_shards.proofs.parts.part_of.Goals as goal

pub returns-in-Ok : goal.returns-in-Ok
returns-in-Ok c =
    is_part c.args.shards c.args.shard c.args.plan.now c.in-Ok.part
    (ap (λ (p : CheckedPlan). p.grid) c.in-Ok.ensures.ok ∙ c.grid.ensures)
    (ap (λ (p : CheckedPlan). p.rows) c.in-Ok.ensures.ok ∙ (c.as_slice-2.ensures.value ∙ (c.in_ok-rows.ensures ∙ ap (part_rows c.args.shards c.args.shard 0) c.rows.ensures.rows)))
