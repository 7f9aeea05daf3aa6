use Rattle.std.proofs.Common.{◌≡◌, ◌∙◌, List, ℕ, sym, ap, subst}
use Rattle.gq_tag.specs.Tag.{file_place}
use Rattle.gq_laws.specs.declared.ops.Op.{Op}
use Rattle.gq_laws.specs.Operations.{Tagged, Legal}
use Rattle.gq_laws.specs.Orders.{order}
use Rattle.gq_laws.specs.Tenants.{tenant_operations}
use Rattle.gq_order.proofs.run.file_order.Goals as goal

ops_are : (c : goal.After-check_order-legal) → c.in_ok-ops.ops.items ≡ tenant_operations c.args.plan.now c.args.events.now c.args.file.tenant (file_place c.args.file)
ops_are c = c.in_ok-ops.ensures.run c.requires.run

tagged : (c : goal.After-check_order-legal) → Tagged c.as_slice.result.now
tagged c = let P : List Op → Type 0 = λ z. Tagged z in subst P (sym c.as_slice.ensures.value) (c.in_ok-ops.ensures.tagged c.requires.run)

legal : (c : goal.After-check_order-legal) → Legal c.as_slice-2.result.now c.as_slice-3.result.now
legal c =
    let P : List Op → Type 0 = λ z. Legal z c.in_ok-order.order.items in
    let Q : List ℕ → Type 0 = λ z. Legal c.as_slice-2.result.now z in
    subst Q (sym c.as_slice-3.ensures.value) (subst P (c.as_slice.ensures.value ∙ sym c.as_slice-2.ensures.value) (c.in_ok-order.ensures.legal (tagged c)))

pub returns-clause-ops : goal.returns-clause-ops
returns-clause-ops c = ops_are c

pub returns-clause-order : goal.returns-clause-order
returns-clause-order c = c.in_ok-order.ensures.definition (tagged c) ∙ ap order (c.as_slice.ensures.value ∙ ops_are c)

pub returns-clause-legal : goal.returns-clause-legal
returns-clause-legal c = let test = c.check_order-legal.ensures in test.1 (legal c)
