-- One tenant after another.
use Rattle.std.proofs.Common.{◌≡◌, ◌+◌, ◌<◌, length, ◌∙◌, sym, subst, arith, ap, []}
use Rattle.gq_desk.specs.CheckedPlan.{CheckedPlan}
use Rattle.gq_node.specs.Sites.{Here}
use Rattle.gq_parts.specs.Inputs.{ticks_of}
use Rattle.gq_parts.specs.Steps.{TookOf}
use Rattle.gq_parts.proofs.Taking.{ticks_below, below-none, below-more, below-all, with_inputs, none_took_all, took_next, took_same}
use Rattle.gq_machine.proofs.machine.NodeMachine.tick_tenants.Goals as goal

pub loop-place-init : goal.loop-place-init
loop-place-init c =
    let w = c.args.self.now.node.tables in
    took_same w w (λ t. []) (ticks_below w.plan w.here 0) _ _ _ _ (λ u below. sym (below-none w.plan w.here 0 u (omega arith))) (none_took_all w c.args.facts.now.items c.args.told.now.items)

pub loop-place-preserved : goal.loop-place-preserved
loop-place-preserved c =
    let w = c.args.self.now.node.tables in
    let m = c.loop-place.self.node.tables in
    let n = c.loop-place.place in
    let tenants : c.tenants-tenants.result ≡ length w.plan.rows = c.tenants-tenants.ensures.value ∙ ap (λ (p : CheckedPlan). length p.rows) c.plan.ensures in
    let within : n < length w.plan.rows = omega arith in
    let Q : CheckedPlan → Here → Type 0 = λ p h. TookOf m n (ticks_of p h n) c.loop-place.facts.items c.tick_tenant.new.facts.items c.loop-place.told.items c.tick_tenant.new.told.items c.tick_tenant.new.self.node.tables in
    let one : Q w.plan w.here = subst (λ p. Q p w.here) c.loop-place.invariant.takes.plan (subst (λ h. Q m.plan h) c.loop-place.invariant.takes.here c.in_ok-tick_tenant.ensures) in
    took_same w c.tick_tenant.new.self.node.tables (with_inputs (ticks_below w.plan w.here n) n (ticks_of w.plan w.here n)) (ticks_below w.plan w.here (n + 1)) _ _ _ _ (λ u below. below-more w.plan w.here n u)
    (took_next w m c.tick_tenant.new.self.node.tables (ticks_below w.plan w.here n) n (ticks_of w.plan w.here n) _ _ _ _ _ _ within (λ u above. below-none w.plan w.here n u above) c.loop-place.invariant one)

pub returns : goal.returns
returns c =
    let w = c.args.self.now.node.tables in
    let tenants : c.tenants-tenants.result ≡ length w.plan.rows = c.tenants-tenants.ensures.value ∙ ap (λ (p : CheckedPlan). length p.rows) c.plan.ensures in
    took_same w c.loop-place.self.node.tables (ticks_below w.plan w.here c.loop-place.place) (ticks_of w.plan w.here) _ _ _ _ (λ u below. below-all w.plan w.here c.loop-place.place u (omega arith)) c.loop-place.invariant
