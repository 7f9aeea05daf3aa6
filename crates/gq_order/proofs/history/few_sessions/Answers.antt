-- A plan has no fault.
use Rattle.std.proofs.Common.{◌≡◌, None, subst}
use Rattle.gq_desk.specs.Plans.{plan_fault}
use Rattle.gq_order.proofs.Running.{few_bytes}
use Rattle.gq_order.proofs.history.few_sessions.Goals as goal

pub returns : goal.returns
returns c = few_bytes c.args.plan.now (subst (λ rows. plan_fault c.args.plan.now.blocks rows ≡ None) c.rows-rows.ensures.rows c.rows-rows.ensures.sound.fault)
