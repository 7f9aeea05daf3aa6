-- What the letter gives is of the tenant, and is appended.
use Rattle.std.proofs.Common.{◌<◌, ℕ, length, sym, subst}
use Rattle.std.specs.Prelude.{IfSome}
use Rattle.gq_tag.specs.Tag.{own_message}
use Rattle.gq_desk.specs.CheckedPlan.{CheckedPlan}
use Rattle.gq_node.specs.Inputs.{Brought, does}
use Rattle.gq_node.specs.Recalling.{tenant_of}
use Rattle.gq_node.specs.Tables.{Tables, Acts}
use Rattle.gq_parts.specs.Steps.{IsOfPlan}
use Rattle.gq_parts.proofs.Taking.{fact_own, letters_have, transfer_has}
use Rattle.gq_parts.proofs.Own.{took_letter}
use Rattle.gq_machine.proofs.machine.NodeMachine.take_letter.Goals as goal

pub put_step-requires-clause-fact : goal.put_step-requires-clause-fact
put_step-requires-clause-fact c =
    let w : Tables = c.args.self.now.node.tables in
    let A : ℕ → Type 0 = λ t. Acts w t (does (Brought c.number-here.result (own_message c.args.letter.now))) c.in-Ok.out c.letter.new.self.tables in
    let acts : A c.args.tenant = subst A c.requires.letter.0 c.in-Ok.ensures.acts in
    let P : CheckedPlan → Type 0 = λ p. IfSome c.in-Ok.out.fact (λ fact. tenant_of fact < length p.rows) in
    subst P (sym acts.leads.plan) (fact_own w c.args.tenant (Brought c.number-here.result (own_message c.args.letter.now)) c.in-Ok.out c.letter.new.self.tables c.in_ok-has_memory.ensures c.requires.tenant acts)

pub put_step-requires-clause-letters : goal.put_step-requires-clause-letters
put_step-requires-clause-letters c =
    let w : Tables = c.args.self.now.node.tables in
    let A : ℕ → Type 0 = λ t. Acts w t (does (Brought c.number-here.result (own_message c.args.letter.now))) c.in-Ok.out c.letter.new.self.tables in
    letters_have w c.args.tenant (Brought c.number-here.result (own_message c.args.letter.now)) c.in-Ok.out c.letter.new.self.tables c.in_ok-has_memory.ensures c.requires.tenant (subst A c.requires.letter.0 c.in-Ok.ensures.acts)

pub put_step-requires-clause-transfer : goal.put_step-requires-clause-transfer
put_step-requires-clause-transfer c =
    let w : Tables = c.args.self.now.node.tables in
    let A : ℕ → Type 0 = λ t. Acts w t (does (Brought c.number-here.result (own_message c.args.letter.now))) c.in-Ok.out c.letter.new.self.tables in
    let acts : A c.args.tenant = subst A c.requires.letter.0 c.in-Ok.ensures.acts in
    let P : CheckedPlan → Type 0 = λ p. IsOfPlan p c.in-Ok.out.transfer in
    subst P (sym acts.leads.plan) (transfer_has w c.args.tenant (Brought c.number-here.result (own_message c.args.letter.now)) c.in-Ok.out c.letter.new.self.tables c.in_ok-has_memory.ensures c.requires.tenant acts)

pub returns-in_ok-put_step-in-Ok : goal.returns-in_ok-put_step-in-Ok
returns-in_ok-put_step-in-Ok c =
    let w : Tables = c.args.self.now.node.tables in
    let m : Tables = c.letter.new.self.tables in
    let letter = own_message c.args.letter.now in
    let A : ℕ → ℕ → Type 0 = λ t from. Acts w t (does (Brought from letter)) c.in-Ok.out m in
    let acts : A c.args.tenant w.here.node = subst (A c.args.tenant) c.number-here.ensures (subst (λ t. A t c.number-here.result) c.requires.letter.0 c.in-Ok.ensures.acts) in
    let put = c.in_ok-put_step-in-Ok.ensures in
    took_letter w m c.args.tenant letter c.in-Ok.out _ _ _ _ _ _ acts
    (letters_have w c.args.tenant (Brought w.here.node letter) c.in-Ok.out m c.in_ok-has_memory.ensures c.requires.tenant acts) put.fit put.appended put.own
