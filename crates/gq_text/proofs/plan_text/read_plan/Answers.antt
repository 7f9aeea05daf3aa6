use Rattle.std.proofs.lemmas.Result.{err_from_is_err_and}
use Rattle.gq_text.proofs.PlanReading.{plan_after_lines, fault_stays}
use Rattle.gq_text.proofs.plan_text.read_plan.Goals as goal

pub returns-in_err-plan-clause-fault : goal.returns-in_err-plan-clause-fault
returns-in_err-plan-clause-fault c =
    let p = err_from_is_err_and c.from_residual-in_err-plan.result c.from_residual-in_err-plan.ensures.1 in
    let g = rw c.grid_told.ensures at c.in_ok-grid.ensures.ok in
    let b = rw c.blocks_told.ensures.value at c.in_ok-blocks.ensures.ok in
    let r = rw c.is_room.ensures at c.in_ok-rows.ensures.rows in
    rw (p.1, p.2, plan_after_lines _ _ _ _ _ _ _ _ _ c.in_ok-first.ensures.line g c.in_ok-second.ensures.line b r)
    (fault_stays _ _ c.in_err-plan.field-0.0 (rw c.as_slice.ensures.value at c.in_err-plan.ensures.fault))
