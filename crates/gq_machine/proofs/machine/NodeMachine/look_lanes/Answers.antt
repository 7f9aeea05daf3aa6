-- One lane after another, or the first one where no file is lacked.
use Rattle.std.proofs.Common.{◌≡◌, ◌∙◌, ◌≤◌, ◌∷◌, ◌-◌, [], ℕ, suc, List, map, sym, ap, subst, arith}
use Rattle.std.specs.List.{range_with_len}
use Rattle.std.proofs.lemmas.List.FromFn.{map-range_with_len_more}
use Rattle.gq_desk.specs.CheckedPlan.{CheckedPlan}
use Rattle.gq_node.specs.Inputs.{Input, Looked}
use Rattle.gq_node.specs.Tables.{Tables}
use Rattle.gq_parts.specs.Inputs.{lanes_at}
use Rattle.gq_parts.specs.Steps.{TookOf}
use Rattle.gq_parts.proofs.Taking.{took_more}
use Rattle.gq_machine.proofs.Idle.{idle_took}
use Rattle.gq_machine.proofs.machine.NodeMachine.look_lanes.Goals as goal

pub returns-then-not-lacks_some : goal.returns-then-not-lacks_some
returns-then-not-lacks_some c =
    let w : Tables = c.args.self.now.node.tables in
    let m : Tables = c.look.new.self.node.tables in
    let t : ℕ = c.args.tenant in
    let lanes : ℕ = lanes_at w.plan t in
    let all : suc (lanes - 1) ≡ lanes = omega arith in
    let P : List Input → Type 0 = λ inputs. TookOf w t inputs c.args.facts.now.items c.look.new.facts.items c.args.told.now.items c.look.new.told.items m in
    subst (λ n. P (map Looked (range_with_len 0 n))) all
    (took_more w m m t (Looked 0 ∷ []) (map Looked (range_with_len 1 (lanes - 1))) _ _ _ _ _ _ c.in_ok-look.ensures
    (idle_took m t 1 (lanes - 1) _ _ (omega arith) (sym c.lacks_some.ensures ∙ c.if-not-lacks_some.true)))

pub loop-lane-init : goal.loop-lane-init
loop-lane-init c = c.in_ok-look.ensures

pub loop-lane-preserved : goal.loop-lane-preserved
loop-lane-preserved c =
    let w : Tables = c.args.self.now.node.tables in
    let m : Tables = c.loop-lane.self.node.tables in
    let t : ℕ = c.args.tenant in
    let more = map-range_with_len_more Looked 0 c.loop-lane.lane c.loop-lane.lane (omega arith) in
    let P : List Input → Type 0 = λ inputs. TookOf w t inputs c.args.facts.now.items c.look-in-loop-lane.new.facts.items c.args.told.now.items c.look-in-loop-lane.new.told.items c.look-in-loop-lane.new.self.node.tables in
    subst P (sym more) (took_more w m c.look-in-loop-lane.new.self.node.tables t _ (Looked c.loop-lane.lane ∷ []) _ _ _ _ _ _ c.loop-lane.invariant c.in_ok-look-2.ensures)

pub returns : goal.returns
returns c =
    let w : Tables = c.args.self.now.node.tables in
    let lanes : c.lanes-lanes.result ≡ lanes_at w.plan c.args.tenant = c.lanes-lanes.ensures ∙ ap (λ (p : CheckedPlan). lanes_at p c.args.tenant) c.in_ok-look.ensures.takes.plan in
    let some : 1 ≤ lanes_at w.plan c.args.tenant = omega arith in
    let end : c.loop-lane.lane ≡ lanes_at w.plan c.args.tenant = omega (arith, c.loop-lane-test.false, c.loop-lane.auto.lane-end, lanes, some) in
    subst (λ n. TookOf w c.args.tenant (map Looked (range_with_len 0 n)) c.args.facts.now.items c.loop-lane.facts.items c.args.told.now.items c.loop-lane.told.items c.loop-lane.self.node.tables) end c.loop-lane.invariant
