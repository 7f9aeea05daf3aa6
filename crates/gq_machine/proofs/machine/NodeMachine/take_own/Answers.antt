-- One hop more, and the end.
use Rattle.std.proofs.Common.{◌≡◌, ◌∙◌, ◌<◌, ◌++◌, ℕ, false, List, [], length, map, ap, subst, sym, arith}
use Rattle.std.specs.Prelude.{All}
use Rattle.gq_tag.specs.declared.Message.{Message}
use Rattle.gq_tag.specs.Tag.{own_message}
use Rattle.gq_desk.specs.CheckedPlan.{CheckedPlan}
use Rattle.gq_node.specs.Tables.{Tables}
use Rattle.gq_parts.specs.declared.laws.TheConstants.{MOST_HOPS}
use Rattle.gq_parts.specs.Steps.{IsAddressed, IsOfTenant, table_lines, TookHop}
use Rattle.gq_parts.proofs.Taking.{on_ok, with_address}
use Rattle.gq_parts.proofs.Own.{TookHops, took_no_hop, took_hop, took_own}
use Rattle.gq_machine.proofs.machine.NodeMachine.take_own.Goals as goal

pub loop-hop-init : goal.loop-hop-init
loop-hop-init c = took_no_hop c.args.self.now.node.tables c.args.tenant c.args.first.items c.args.facts.now.items c.args.told.now.items c.requires.letters

pub take_hop-requires-clause-tenant : goal.take_hop-requires-clause-tenant
take_hop-requires-clause-tenant c = subst (λ (p : CheckedPlan). c.args.tenant < length p.rows) (sym c.loop-hop.invariant.same_plan) c.requires.tenant

pub take_hop-requires-clause-letters : goal.take_hop-requires-clause-letters
take_hop-requires-clause-letters c = subst (λ ms. All (IsOfTenant c.args.tenant) ms) (sym c.as_slice.ensures.value) c.loop-hop.invariant.theirs

pub loop-hop-preserved : goal.loop-hop-preserved
loop-hop-preserved c =
    let w : Tables = c.args.self.now.node.tables in
    let m : Tables = c.loop-hop.self.node.tables in
    let new : Tables = c.take_hop.new.self.node.tables in
    let next : List Message = c.take_hop.new.own.items in
    let P : List Message → List Message → Type 0 = λ own before.
    TookHop m c.args.tenant (map own_message own) before next c.loop-hop.facts.items c.take_hop.new.facts.items c.loop-hop.told.items c.take_hop.new.told.items new in
    let one : P c.loop-hop.own.items [] = subst (λ own. P own []) c.as_slice.ensures.value (subst (P c.as_slice.result.now) c.new-next.ensures.items c.in_ok-take_hop.ensures) in
    took_hop c.loop-hop._hop w m new c.args.tenant (map own_message c.args.first.items) c.loop-hop.own.items next _ _ _ _ _ _ c.loop-hop.invariant one

pub put_lines-requires : goal.put_lines-requires
put_lines-requires c =
    let m : Tables = c.loop-hop.self.node.tables in
    let within : c.args.tenant < length m.plan.rows = subst (λ (p : CheckedPlan). c.args.tenant < length p.rows) (sym c.loop-hop.invariant.same_plan) c.requires.tenant in
    subst (λ ms. All (IsAddressed m.plan) ms) (sym c.as_slice-2.ensures.value) (with_address m.plan c.args.tenant c.loop-hop.own.items within c.loop-hop.invariant.theirs)

pub returns : goal.returns
returns c =
    let w : Tables = c.args.self.now.node.tables in
    let m : Tables = c.loop-hop.self.node.tables in
    let before = c.loop-hop.told.items in
    let all : c.loop-hop._hop ≡ MOST_HOPS = omega arith in
    let P : ℕ → Type 0 = λ n. TookHops n w c.args.tenant (map own_message c.args.first.items) c.loop-hop.own.items c.args.facts.now.items c.loop-hop.facts.items c.args.told.now.items before m in
    on_ok c.put_lines.result (λ lines. took_own w m c.args.tenant (map own_message c.args.first.items) c.loop-hop.own.items _ _ _ _ _ (subst P all c.loop-hop.invariant)
    (lines ∙ ap (λ ms. before ++ table_lines false m.plan m.here m ms) c.as_slice-2.ensures.value)) c.put_lines.ensures
