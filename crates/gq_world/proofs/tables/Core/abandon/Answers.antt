-- The session gives its operation up, as the model's does.
use Rattle.std.proofs.Common.{◌≡◌, ◌∙◌, ℕ, ◌-◌, ◌<◌, List, None, length, ap, sym, subst, arith}
use Rattle.std.specs.Prelude.{slice_set}
use Rattle.std.proofs.lemmas.List.{get_or_default}
use Rattle.gq_model.specs.declared.events.Line.TheVariants.{Abandon}
use Rattle.gq_model.specs.Lone.{first_cause}
use Rattle.gq_world.specs.declared.sessions.SessionState.{SessionState}
use Rattle.gq_world.specs.Tables.{Tables, IsShaped, session_states_at, session_state_in}
use Rattle.gq_world.specs.Asking.{idle_causes, rested_session_state, rested_tables}
use Rattle.gq_world.specs.Machine.{Acts}
use Rattle.gq_world.proofs.Quiet.{refused_acts, refused_tells}
use Rattle.gq_world.proofs.RetriesAndAbandons.{at_work, abandon_refused, abandon_tells, abandon_acts}
use Rattle.gq_world.proofs.tables.Core.abandon.Goals as goal

pub returns-in-Some-clause-answer : goal.returns-in-Some-clause-answer
returns-in-Some-clause-answer c =
    refused_tells c.args.self.now c.args.tenant (Abandon c.args.session) c.in-Some.word
    (abandon_refused c.args.self.now c.args.tenant c.args.session c.in-Some.word (sym c.idle_refusal.ensures ∙ c.in-Some.is))

pub returns-in-Some-clause-acts : goal.returns-in-Some-clause-acts
returns-in-Some-clause-acts c =
    refused_acts c.args.self.now c.args.tenant (Abandon c.args.session) c.in-Some.word
    (abandon_refused c.args.self.now c.args.tenant c.args.session c.in-Some.word (sym c.idle_refusal.ensures ∙ c.in-Some.is))

pub returns-clause-answer : goal.returns-clause-answer
returns-clause-answer c = abandon_tells c.args.self.now c.args.tenant c.args.session (sym c.in_default.ensures)

pub returns-clause-acts : goal.returns-clause-acts
returns-clause-acts c =
    let w : Tables = c.args.self.now in
    let t : ℕ = c.args.tenant in
    let k : ℕ = c.args.session in
    let asked : first_cause (idle_causes w t k) ≡ None = sym c.in_default.ensures in
    let shaped : IsShaped w = subst IsShaped c.self.view_is c.self.invariant.1 in
    let s = at_work w t k asked in
    let count = shaped.session_states t c.requires.tenant in
    let low = s.0 in
    let high = s.1 in
    let places : k - 1 < length (session_states_at w.session_states t) = omega arith in
    let tenants : t < length w.session_states = rw shaped.tenants c.requires.tenant in
    let session_states_now : c.self.inside.session_states.items ≡ w.session_states = ap (λ (x : Tables). x.session_states) c.self.view_is in
    let session_states_is : c.index_mut.result.now ≡ session_states_at w.session_states t =
    c.index_mut.ensures.value ∙ get_or_default c.self.inside.session_states.items t _ _ (rw session_states_now tenants) ∙ ap (λ all. session_states_at all t) session_states_now in
    let new : List SessionState = slice_set (session_states_at w.session_states t) (k - 1) (rested_session_state (session_state_in (session_states_at w.session_states t) (k - 1))) in
    let new_is : c.abandon.new.self ≡ new = c.abandon.ensures ∙ ap (λ (all : List SessionState). slice_set all (k - 1) (rested_session_state (session_state_in all (k - 1)))) session_states_is in
    let V : List SessionState → Tables = λ session_states. record { plan = c.self.inside.plan; up = c.self.inside.up.up; kept = c.self.inside.kept; lines = c.self.inside.lines.items; desk = c.self.inside.desk; channels = c.self.inside.post; stores = c.self.inside.stores.items; session_states = slice_set c.self.inside.session_states.items t session_states } in
    let now : rested_tables w t (k - 1) ≡ V c.abandon.new.self = ap (λ (x : Tables). record x { session_states = slice_set x.session_states t new }) (sym c.self.view_is) ∙ ap V (sym new_is) in
    subst (Acts w t (Abandon k)) now (abandon_acts w t k tenants places asked)
