-- A plan gives each tenant so many sessions and no more.
use Rattle.std.proofs.Common.{◌≡◌, None, subst}
use Rattle.gq_desk.specs.Plans.{plan_fault}
use Rattle.gq_desk.proofs.SoundRows.{few_sessions}
use Rattle.gq_node.proofs.tables.new_session_states.Goals as goal

pub returns-clause-few : goal.returns-clause-few
returns-clause-few c t within = few_sessions c.args.plan.now (subst (λ rows. plan_fault c.args.plan.now.blocks rows ≡ None) c.rows-row-items.ensures.rows c.rows-row-items.ensures.sound.fault) t
