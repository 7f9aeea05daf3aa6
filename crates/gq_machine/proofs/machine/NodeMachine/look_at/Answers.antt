-- What the call gives is of the tenant, and is appended.
use Rattle.std.proofs.Common.{◌<◌, length, refl, sym, subst}
use Rattle.std.specs.Prelude.{IfSome}
use Rattle.gq_desk.specs.CheckedPlan.{CheckedPlan}
use Rattle.gq_node.specs.Inputs.{AskedLook}
use Rattle.gq_node.specs.Recalling.{tenant_of}
use Rattle.gq_parts.specs.Steps.{IsOfPlan}
use Rattle.gq_parts.proofs.Taking.{fact_own, letters_have, transfer_has, one_took}
use Rattle.gq_machine.proofs.machine.NodeMachine.look_at.Goals as goal

pub put-requires-clause-fact : goal.put-requires-clause-fact
put-requires-clause-fact c =
    let acts = c.in-Ok.ensures.acts in
    let P : CheckedPlan → Type 0 = λ p. IfSome c.in-Ok.out.fact (λ fact. tenant_of fact < length p.rows) in
    subst P (sym acts.leads.plan) (fact_own c.args.self.now.node.tables c.args.tenant (AskedLook c.args.mark c.args.volume) c.in-Ok.out c.look_at.new.self.tables c.in_ok-has_memory.ensures c.requires acts)

pub put-requires-clause-letters : goal.put-requires-clause-letters
put-requires-clause-letters c =
    letters_have c.args.self.now.node.tables c.args.tenant (AskedLook c.args.mark c.args.volume) c.in-Ok.out c.look_at.new.self.tables c.in_ok-has_memory.ensures c.requires c.in-Ok.ensures.acts

pub put-requires-clause-transfer : goal.put-requires-clause-transfer
put-requires-clause-transfer c =
    let acts = c.in-Ok.ensures.acts in
    let P : CheckedPlan → Type 0 = λ p. IsOfPlan p c.in-Ok.out.transfer in
    subst P (sym acts.leads.plan) (transfer_has c.args.self.now.node.tables c.args.tenant (AskedLook c.args.mark c.args.volume) c.in-Ok.out c.look_at.new.self.tables c.in_ok-has_memory.ensures c.requires acts)

pub returns-in_ok-put-in-Ok : goal.returns-in_ok-put-in-Ok
returns-in_ok-put-in-Ok c =
    one_took c.args.self.now.node.tables c.args.tenant (AskedLook c.args.mark c.args.volume) c.in-Ok.out _ _ _ _ _ _ (λ site local. (refl, refl)) c.in-Ok.ensures.acts c.in_ok-put-in-Ok.ensures
