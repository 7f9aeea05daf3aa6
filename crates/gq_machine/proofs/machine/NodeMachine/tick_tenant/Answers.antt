-- The tenant's sessions, and its lanes behind them.
use Rattle.std.proofs.Common.{ℕ, subst}
use Rattle.gq_desk.specs.CheckedPlan.{CheckedPlan}
use Rattle.gq_node.specs.Tables.{Tables}
use Rattle.gq_parts.specs.Inputs.{session_ticks, lane_ticks}
use Rattle.gq_parts.specs.Steps.{TookOf}
use Rattle.gq_parts.proofs.Taking.{on_ok, took_more}
use Rattle.gq_machine.proofs.machine.NodeMachine.tick_tenant.Goals as goal

pub returns : goal.returns
returns c =
    let w : Tables = c.args.self.now.node.tables in
    let m : Tables = c.tick_sessions.new.self.node.tables in
    let t : ℕ = c.args.tenant in
    let P : CheckedPlan → Type 0 = λ plan. TookOf m t (lane_ticks plan t) c.tick_sessions.new.facts.items c.look_lanes.new.facts.items c.tick_sessions.new.told.items c.look_lanes.new.told.items c.look_lanes.new.self.node.tables in
    on_ok c.look_lanes.result
    (λ looked. took_more w m c.look_lanes.new.self.node.tables t (session_ticks w.plan w.here t) (lane_ticks w.plan t) _ _ _ _ _ _ c.in_ok-tick_sessions.ensures (subst P c.in_ok-tick_sessions.ensures.takes.plan looked)) c.look_lanes.ensures
