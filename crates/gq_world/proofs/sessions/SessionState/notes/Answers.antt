-- The session state stands for the operation with the reply noted.
use Rattle.std.proofs.Common.{◌≡◌, ◌∙◌, Bool, true, false, Some, ap, sym}
use Rattle.std.proofs.lemmas.Result.{IfOk-weaker}
use Rattle.gq_grid.specs.Grid.{Servers}
use Rattle.gq_phase.specs.declared.Heard.TheVariants.{Noted}
use Rattle.gq_phase.specs.Standing.{HearsAs}
use Rattle.gq_world.specs.declared.sessions.SessionState.{SessionState}
use Rattle.gq_world.specs.SessionStates.{SessionStateHears}
use Rattle.gq_world.proofs.Sitting.{session_state_hears}
use Rattle.gq_world.proofs.sessions.SessionState.notes.Goals as goal

pub returns-in-Some-clause-hears : goal.returns-in-Some-clause-hears
returns-in-Some-clause-hears c =
    let old : SessionState = c.args.self.now in
    let new : SessionState = record { op = old.op; floor = old.floor; operation = Some c.notes.new.self; answered = old.answered } in
    let P : Bool → Type 0 = λ noted. noted ≡ true → (up : Servers) → HearsAs c.in-Some.operation c.notes.new.self up c.args.message.now Noted in
    let Q : Bool → Type 0 = λ noted. noted ≡ true → (up : Servers) → SessionStateHears old new up c.args.message.now Noted in
    IfOk-weaker c.notes.result P Q (λ noted hears is up. session_state_hears old c.in-Some.operation c.notes.new.self up c.args.message.now Noted c.in-Some.is (hears is up) (λ x e. cc)) c.notes.ensures.hears

pub returns-in-Some-clause-stays : goal.returns-in-Some-clause-stays
returns-in-Some-clause-stays c =
    let old : SessionState = c.args.self.now in
    let P : Bool → Type 0 = λ noted. noted ≡ false → c.notes.new.self ≡ c.in-Some.operation in
    let Q : Bool → Type 0 = λ noted. noted ≡ false → record { op = old.op; floor = old.floor; operation = Some c.notes.new.self; answered = old.answered } ≡ old in
    IfOk-weaker c.notes.result P Q (λ noted same is. ap (λ o. record old { operation = o }) (ap Some (same is) ∙ sym c.in-Some.is)) c.notes.ensures.stays
