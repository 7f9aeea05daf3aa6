-- The session gives its operation up, as the model's does.
use Rattle.std.proofs.Common.{◌≡◌, ◌∙◌, ℕ, ◌<◌, List, length, refl, ap, sym, subst}
use Rattle.std.specs.Prelude.{slice_set}
use Rattle.gq_model.specs.declared.events.Line.TheVariants.{Abandon}
use Rattle.gq_node.specs.declared.session_states.SessionState.{SessionState}
use Rattle.gq_node.specs.Local.{asks}
use Rattle.gq_node.specs.Sites.{session_state_place}
use Rattle.gq_node.specs.SessionStates.{rested_session_state}
use Rattle.gq_node.specs.Shape.{IsShaped}
use Rattle.gq_node.specs.Tables.{Tables, Acts, session_states_at, session_state_in, session_state_at}
use Rattle.gq_node.proofs.Placing.{tenant_there, session_states_read, put_session_state}
use Rattle.gq_node.proofs.Asking.{abandon_acts}
use Rattle.gq_node.proofs.tables.Core.abandon.Goals as goal

pub returns : goal.returns
returns c =
    let t : ℕ = c.args.tenant in
    let k : ℕ = c.args.session in
    let w : Tables = c.args.self.now in
    let v : Tables = record { plan = c.self.inside.plan; here = record { node = c.self.inside.node; lost = c.self.inside.lost }; desk = c.self.inside.desk; store = c.self.inside.store; given = c.self.inside.lacks.items; joined = c.self.inside.joined; peers = c.self.inside.peers.items; session_states = c.self.inside.session_states.items } in
    let is : v ≡ w = c.self.view_is in
    let shaped : IsShaped v = c.self.invariant in
    let within : t < length v.plan.rows = subst (λ (x : Tables). t < length x.plan.rows) (sym is) c.requires.tenant in
    let there : c.index_mut.result.now ≡ session_states_at v.session_states t = session_states_read v t v.session_states c.index_mut.result.now _ refl (tenant_there v t shaped within) c.index_mut.ensures.value in
    let session_state : session_state_in c.index_mut.result.now (session_state_place k) ≡ session_state_at w t k = ap (λ (all : List SessionState). session_state_in all (session_state_place k)) there ∙ ap (λ (x : Tables). session_state_at x t k) is in
    let place : c.session_state_place.result ≡ session_state_place k = c.session_state_place.ensures.place in
    let put : c.abandon.new.self ≡ slice_set c.index_mut.result.now (session_state_place k) (rested_session_state (session_state_at w t k)) = c.abandon.ensures ∙ (λ i. slice_set c.index_mut.result.now (place i) (rested_session_state (session_state_in c.index_mut.result.now (place i)))) ∙ ap (λ (x : SessionState). slice_set c.index_mut.result.now (session_state_place k) (rested_session_state x)) session_state in
    subst (Acts w t (asks c.args.op (Abandon k)) c.told.result) (put_session_state w v t k (rested_session_state (session_state_at w t k)) c.index_mut.result.now c.abandon.new.self is there put)
    (abandon_acts w t k c.args.op c.told.result (subst IsShaped is shaped) c.requires.tenant c.requires.goes
    (record { answer_is = c.told.ensures.answer; letters = c.told.ensures.letters; transfer = c.told.ensures.transfer; fact = c.told.ensures.fact }))
