-- A step is taken, and the line acts.
use Rattle.std.proofs.Common.{◌≡◌, ◌∙◌, ℕ, Bool, true, false, sym, subst, refl}
use Rattle.std.specs.Prelude.{nat_le, not}
use Rattle.std.specs.Result.{IfOk, OnOk}
use Rattle.std.proofs.lemmas.Result.{IfOk-weaker, on_ok_weaker}
use Rattle.gq_model.specs.declared.events.Answer.{Answer}
use Rattle.gq_model.specs.declared.events.Line.{Line}
use Rattle.gq_model.specs.declared.events.Event.TheVariants.{Tenant}
use Rattle.gq_desk.specs.CheckedPlan.{row_at}
use Rattle.gq_world.specs.Tables.{Tables, IsReady, taken_at}
use Rattle.gq_world.specs.Machine.{Acts, Advances, Tells, TellsLine}
use Rattle.gq_model.specs.Shown.{shown}
use Rattle.gq_world.proofs.Composing.{taken, taken_ready, taken_advances, taken_tells}
use Rattle.gq_world.proofs.tables.Core.tenant_line.Goals as goal

was_left : (left spent : Bool) → left ≡ not spent → left ≡ true → spent ≡ false
was_left left true word there = sym there ∙ word
was_left left false word there = refl

pub act-requires-clause-ready : goal.act-requires-clause-ready
act-requires-clause-ready c =
    let w : Tables = c.args.self.now in
    let t : ℕ = c.args.tenant in
    let now_is : c.take_step.new.self ≡ taken w t = c.take_step.ensures.taken c.if-not-take_step.false in
    subst (λ (x : Tables). IsReady x t) (sym now_is) (taken_ready w t c.take_step.ensures.within (c.take_step.ensures.few c.if-not-take_step.false) (c.requires.sound t c.requires.tenant))

pub returns-clause-answer : goal.returns-clause-answer
returns-clause-answer c =
    let w : Tables = c.args.self.now in
    let t : ℕ = c.args.tenant in
    let line : Line = c.args.line.now in
    let left = was_left _ (nat_le (row_at w.plan t).steps (taken_at w t)) c.take_step.ensures.left c.if-not-take_step.false in
    let now_is : c.take_step.new.self ≡ taken w t = c.take_step.ensures.taken c.if-not-take_step.false in
    let P : Answer → Type 0 = λ answer. TellsLine (taken w t) t line (shown answer) in
    let Q : Answer → Type 0 = λ answer. Tells w (Tenant t line) (shown answer) in
    IfOk-weaker c.act.result P Q
    (λ answer tells. taken_tells w t line (shown answer) c.take_step.ensures.within left tells)
    (subst (λ (x : Tables). IfOk c.act.result (λ answer. TellsLine x t line (shown answer))) now_is c.act.ensures.answer)

pub returns-clause-advances : goal.returns-clause-advances
returns-clause-advances c =
    let w : Tables = c.args.self.now in
    let t : ℕ = c.args.tenant in
    let line : Line = c.args.line.now in
    let left = was_left _ (nat_le (row_at w.plan t).steps (taken_at w t)) c.take_step.ensures.left c.if-not-take_step.false in
    let now_is : c.take_step.new.self ≡ taken w t = c.take_step.ensures.taken c.if-not-take_step.false in
    on_ok_weaker {P = Acts (taken w t) t line c.act.new.self} {Q = Advances w (Tenant t line) c.act.new.self} c.act.result
    (taken_advances w c.act.new.self t line c.take_step.ensures.within left)
    (subst (λ (x : Tables). OnOk c.act.result (Acts x t line c.act.new.self)) now_is c.act.ensures.acts)
