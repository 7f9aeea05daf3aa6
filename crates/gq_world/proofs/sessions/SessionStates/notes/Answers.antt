-- The session's state is the one that notes.
use Rattle.std.proofs.Common.{◌≡◌, ◌∙◌, ◌-◌, ◌<◌, ℕ, Bool, true, List, length, ap, sym, subst, arith}
use Rattle.std.specs.Prelude.{slice_set}
use Rattle.std.proofs.lemmas.Result.{IfOk-weaker}
use Rattle.std.proofs.lemmas.List.{get_or_default, get_or-set_same}
use Rattle.gq_grid.specs.Grid.{Servers}
use Rattle.gq_tag.specs.declared.Message.{Message}
use Rattle.gq_phase.specs.declared.Heard.TheVariants.{Noted}
use Rattle.gq_world.specs.declared.sessions.SessionState.{SessionState}
use Rattle.gq_world.specs.Tables.{session_state_in, no_session_state}
use Rattle.gq_world.specs.SessionStates.{SessionStateHears}
use Rattle.gq_world.proofs.sessions.SessionStates.notes.Goals as goal

pub returns-clause-hears : goal.returns-clause-hears
returns-clause-hears c =
    let items : List SessionState = c.self.inside.items.items in
    let m : Message = c.args.message.now in
    let k : ℕ = m.session - 1 in
    let session : c.message.inside.session ≡ m.session = ap (λ (x : Message). x.session) c.message.view_is in
    let place : c.message.inside.session - 1 ≡ k = ap (λ n. n - 1) session in
    let within : k < length items = omega (arith, c.requires.first, c.requires.last, ap (λ (xs : List SessionState). length xs) c.self.view_is) in
    let there : c.message.inside.session - 1 < length items = omega (arith, place, within) in
    let was : c.index_mut-session_state.result.now ≡ session_state_in c.args.self.now k =
    c.index_mut-session_state.ensures.value ∙ get_or_default items (c.message.inside.session - 1) _ no_session_state there ∙ ap (session_state_in items) place ∙ ap (λ xs. session_state_in xs k) c.self.view_is in
    let now : c.notes.new.self ≡ session_state_in (slice_set items (c.message.inside.session - 1) c.notes.new.self) k =
    sym (ap (λ n. session_state_in (slice_set items n c.notes.new.self) k) place ∙ get_or-set_same items k c.notes.new.self no_session_state within) in
    let P : Bool → Type 0 = λ noted. noted ≡ true → (up : Servers) → SessionStateHears c.index_mut-session_state.result.now c.notes.new.self up m Noted in
    let Q : Bool → Type 0 = λ noted. noted ≡ true → (up : Servers) → SessionStateHears (session_state_in c.args.self.now k) (session_state_in (slice_set items (c.message.inside.session - 1) c.notes.new.self) k) up m Noted in
    IfOk-weaker c.notes.result P Q
    (λ noted hears is up. subst (λ old. SessionStateHears old (session_state_in (slice_set items (c.message.inside.session - 1) c.notes.new.self) k) up m Noted) was (subst (λ new. SessionStateHears c.index_mut-session_state.result.now new up m Noted) now (hears is up)))
    c.notes.ensures.hears
