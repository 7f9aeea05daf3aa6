-- What the call gives is of the tenant, and is appended: the reply first.
use Rattle.std.proofs.Common.{◌<◌, ℕ, Bool, [], length, sym, subst}
use Rattle.std.specs.Prelude.{IfSome}
use Rattle.gq_desk.specs.CheckedPlan.{CheckedPlan}
use Rattle.gq_model.specs.declared.events.Line.TheVariants.{Bad as NoLine}
use Rattle.gq_node.specs.Recalling.{tenant_of}
use Rattle.gq_node.specs.Shorts.{own_short}
use Rattle.gq_node.specs.Tables.{Tables}
use Rattle.gq_parts.specs.Steps.{IsOfPlan, PutAll}
use Rattle.gq_parts.proofs.Taking.{GivenIsOf, given_is_of, short_took}
use Rattle.gq_machine.proofs.machine.NodeMachine.short.Goals as goal

pub put_reply-requires : goal.put_reply-requires
put_reply-requires c =
    let w : Tables = c.args.self.now.node.tables in
    let acts = c.in-Ok.ensures.acts [] in
    let its : GivenIsOf w.plan c.args.short.now.tenant c.in-Ok.given = given_is_of w c.args.short.now.tenant c.args.from (own_short c.args.short.now) c.in-Ok.given c.short.new.self.tables c.in_ok-has_memory.ensures c.requires.tenant acts in
    subst (λ (p : CheckedPlan). IfSome c.in-Ok.given.short (λ s. s.tenant < length p.rows)) (sym acts.leads.plan) its.short

pub put-requires-clause-tenant : goal.put-requires-clause-tenant
put-requires-clause-tenant c = subst (λ (p : CheckedPlan). c.args.short.now.tenant < length p.rows) (sym (c.in-Ok.ensures.acts []).leads.plan) c.requires.tenant

pub put-requires-clause-fact : goal.put-requires-clause-fact
put-requires-clause-fact c =
    let w : Tables = c.args.self.now.node.tables in
    let acts = c.in-Ok.ensures.acts [] in
    let its : GivenIsOf w.plan c.args.short.now.tenant c.in-Ok.given = given_is_of w c.args.short.now.tenant c.args.from (own_short c.args.short.now) c.in-Ok.given c.short.new.self.tables c.in_ok-has_memory.ensures c.requires.tenant acts in
    subst (λ (p : CheckedPlan). IfSome c.in-Ok.given.out.fact (λ fact. tenant_of fact < length p.rows)) (sym acts.leads.plan) its.fact

pub put-requires-clause-letters : goal.put-requires-clause-letters
put-requires-clause-letters c =
    (given_is_of c.args.self.now.node.tables c.args.short.now.tenant c.args.from (own_short c.args.short.now) c.in-Ok.given c.short.new.self.tables c.in_ok-has_memory.ensures c.requires.tenant (c.in-Ok.ensures.acts [])).letters

pub put-requires-clause-transfer : goal.put-requires-clause-transfer
put-requires-clause-transfer c =
    let w : Tables = c.args.self.now.node.tables in
    let acts = c.in-Ok.ensures.acts [] in
    let its : GivenIsOf w.plan c.args.short.now.tenant c.in-Ok.given = given_is_of w c.args.short.now.tenant c.args.from (own_short c.args.short.now) c.in-Ok.given c.short.new.self.tables c.in_ok-has_memory.ensures c.requires.tenant acts in
    subst (λ (p : CheckedPlan). IsOfPlan p c.in-Ok.given.out.transfer) (sym acts.leads.plan) its.transfer

pub returns-in_ok-put-in-Ok : goal.returns-in_ok-put-in-Ok
returns-in_ok-put-in-Ok c =
    let w : Tables = c.args.self.now.node.tables in
    let m : Tables = c.short.new.self.tables in
    let t : ℕ = c.args.short.now.tenant in
    let P : Bool → Type 0 = λ again. PutAll m t NoLine again c.in-Ok.given.out c.args.facts.now.items c.put.new.facts.items c.put_reply.new.told.items c.put.new.told.items c.put.new.self.node.tables in
    short_took w t c.args.from (own_short c.args.short.now) c.in-Ok.given m c.put.new.self.node.tables _ _ _ _ _ c.in-Ok.ensures.acts c.in_ok-put_reply-in-Ok.ensures (subst P c.is_once_more-again.ensures c.in_ok-put-in-Ok.ensures)
