-- The request is refused as the model refuses it, and begins as it does.
use Rattle.std.proofs.Common.{◌≡◌, ◌∙◌, ℕ, List, true, ap, sym, subst}
use Rattle.std.proofs.lemmas.Result.{IfOk-weaker}
use Rattle.gq_model.specs.declared.events.Line.{Line}
use Rattle.gq_model.specs.declared.events.Line.TheVariants.{Write}
use Rattle.gq_model.specs.Lone.{Cause}
use Rattle.gq_node.specs.declared.output.Output.{Output}
use Rattle.gq_node.specs.Local.{asks}
use Rattle.gq_node.specs.Asking.{write_causes, Starts}
use Rattle.gq_node.specs.Shape.{IsShaped}
use Rattle.gq_node.specs.Tables.{Tables, Acts, session_state_at}
use Rattle.gq_node.proofs.Asking.{below, IsRequest, is_write, write_task, early_acts, goes_inside, goes_number, never_refused, requested}
use Rattle.gq_node.proofs.tables.Core.write.Goals as goal

pub returns-in-Some : goal.returns-in-Some
returns-in-Some c =
    let line : Line = Write c.args.session c.args.volume c.args.file c.args.bytes.now in
    let causes : List Cause = write_causes c.args.self.now c.args.tenant c.args.session c.args.volume c.args.file c.args.bytes.now in
    let r : IsRequest c.args.self.now c.args.tenant c.args.session (write_task c.args.volume c.args.file c.args.bytes.now) line causes = is_write c.args.self.now c.args.tenant c.args.session c.args.volume c.args.file c.args.bytes.now in
    record {
      acts = early_acts c.args.self.now c.args.tenant c.args.session c.args.op (write_task c.args.volume c.args.file c.args.bytes.now) line causes c.in-Some.word c.refused.result r c.requires.goes (sym c.write_refusal.ensures ∙ c.in-Some.is)
          (record { answer_is = c.refused.ensures.answer; letters = c.refused.ensures.letters; transfer = c.refused.ensures.transfer; fact = c.refused.ensures.fact });
    }

pub refused-requires : goal.refused-requires
refused-requires c =
    record { tenant = c.requires.tenant; has = goes_inside c.args.self.now c.args.tenant c.args.session c.args.op true c.requires.goes }

pub next-next-requires-clause-number : goal.next-next-requires-clause-number
next-next-requires-clause-number c = below c.args.op (session_state_at c.args.self.now c.args.tenant c.args.session).op (goes_number c.args.self.now c.args.tenant c.args.session c.args.op c.requires.goes) c.ranges.op.fits

pub next-next-requires-clause-has : goal.next-next-requires-clause-has
next-next-requires-clause-has c = goes_inside c.args.self.now c.args.tenant c.args.session c.args.op true c.requires.goes

pub start-requires-clause-number : goal.start-requires-clause-number
start-requires-clause-number c = below c.args.op (session_state_at c.args.self.now c.args.tenant c.args.session).op (goes_number c.args.self.now c.args.tenant c.args.session c.args.op c.requires.goes) c.ranges.op.fits

pub start-requires-clause-quorum : goal.start-requires-clause-quorum
start-requires-clause-quorum c =
    let w : Tables = c.args.self.now in
    let shaped : IsShaped w = subst IsShaped c.self.view_is c.self.invariant in
    never_refused w c.args.tenant c.args.session c.write-began.result c.grid.result.now c.next-next.result.up shaped (c.grid.ensures ∙ ap (λ (x : Tables). x.plan.grid) c.self.view_is) c.next-next.ensures.up c.write-began.ensures.none

pub start-requires-clause-has : goal.start-requires-clause-has
start-requires-clause-has c = goes_inside c.args.self.now c.args.tenant c.args.session c.args.op true c.requires.goes

pub returns : goal.returns
returns c =
    let w : Tables = c.args.self.now in
    let t : ℕ = c.args.tenant in
    let k : ℕ = c.args.session in
    let line : Line = Write c.args.session c.args.volume c.args.file c.args.bytes.now in
    let causes : List Cause = write_causes c.args.self.now c.args.tenant c.args.session c.args.volume c.args.file c.args.bytes.now in
    let r : IsRequest w t k (write_task c.args.volume c.args.file c.args.bytes.now) line causes = is_write w t k c.args.volume c.args.file c.args.bytes.now in
    let shaped : IsShaped w = subst IsShaped c.self.view_is c.self.invariant in
    let grid : c.grid.result.now ≡ w.plan.grid = c.grid.ensures ∙ ap (λ (x : Tables). x.plan.grid) c.self.view_is in
    let P : Output → Type 0 = λ out. Starts w t k c.write-began.result out c.start.new.self in
    let Q : Output → Type 0 = λ out. Acts w t (asks c.args.op line) out c.start.new.self in
    record {
      acts = IfOk-weaker c.start.result P Q (λ out starts. requested w t k c.args.op (write_task c.args.volume c.args.file c.args.bytes.now) line causes c.write-began.result c.grid.result.now c.next-next.result.who c.next-next.result.floor c.next-next.result.up out c.start.new.self shaped c.requires.tenant r
          c.requires.goes (sym c.in_default.ensures) grid c.next-next.ensures.who c.next-next.ensures.floor c.next-next.ensures.up c.write-began.ensures.ok starts) c.start.ensures.starts;
    }
