-- A tick does to the session what the model's retry does.
use Rattle.std.proofs.Common.{◌≡◌, ◌∙◌, ℕ, ◌≤◌, ◌<◌, List, None, length, arith, refl, ap, sym, subst}
use Rattle.std.specs.Prelude.{slice_set}
use Rattle.gq_grid.specs.Grid.{Grid}
use Rattle.gq_desk.specs.CheckedPlan.{row_at}
use Rattle.gq_desk.specs.declared.limits.TheConstants.{MOST_SESSIONS}
use Rattle.gq_node.specs.declared.session_states.SessionState.{SessionState}
use Rattle.gq_node.specs.declared.output.Output.{Output}
use Rattle.gq_node.specs.Sites.{session_state_place, session_at}
use Rattle.gq_node.specs.Local.{ticks}
use Rattle.gq_node.specs.SessionStates.{SessionStateTicks, Goes}
use Rattle.gq_node.specs.Shape.{IsShaped}
use Rattle.gq_node.specs.Tables.{Tables, Acts, IsOfPlan, session_states_at, session_state_in, session_state_at}
use Rattle.gq_node.proofs.Placing.{placed_at, place_again, tenant_there, session_states_read, put_session_state, goes_there}
use Rattle.gq_node.proofs.Ticking.{tick_acts}
use Rattle.gq_node.proofs.tables.Core.tick.Goals as goal

pub returns : goal.returns
returns c =
    let t : ℕ = c.args.tenant in
    let p : ℕ = c.args.place in
    let w : Tables = c.args.self.now in
    let k : ℕ = session_at w.plan w.here t p in
    let v : Tables = record { plan = c.self.inside.plan; here = record { node = c.self.inside.node; lost = c.self.inside.lost }; desk = c.self.inside.desk; store = c.self.inside.store; given = c.self.inside.lacks.items; joined = c.self.inside.joined; peers = c.self.inside.peers.items; session_states = c.self.inside.session_states.items } in
    let is : v ≡ w = c.self.view_is in
    let shaped : IsShaped v = c.self.invariant in
    let within : t < length v.plan.rows = subst (λ (x : Tables). t < length x.plan.rows) (sym is) c.requires.tenant in
    let there : c.index_mut.result.now ≡ session_states_at v.session_states t = session_states_read v t v.session_states c.index_mut.result.now _ refl (tenant_there v t shaped within) c.index_mut.ensures.value in
    let few : (row_at w.plan t).sessions ≤ MOST_SESSIONS = (subst IsShaped is shaped).sessions t c.requires.tenant in
    let at : IsOfPlan w t k = placed_at w t p c.requires.place few in
    let again : session_state_place k ≡ p = place_again w.plan w.here t p (omega (arith, few, c.requires.place)) in
    let session_state : session_state_in c.index_mut.result.now p ≡ session_state_at w t k =
    ap (λ (all : List SessionState). session_state_in all p) there ∙ ap (session_state_in (session_states_at v.session_states t)) (sym again) ∙ ap (λ (x : Tables). session_state_at x t k) is in
    let new : SessionState = session_state_in c.tick.new.self p in
    let grid : c.grid.result.now ≡ w.plan.grid = c.grid.ensures ∙ ap (λ (x : Tables). x.plan.grid) is in
    let S : Grid → SessionState → Type 0 = λ g x. SessionStateTicks g x new c.in_ok-messages.messages in
    let ticks' : S w.plan.grid (session_state_at w t k) = subst (S w.plan.grid) session_state (subst (λ g. S g (session_state_in c.index_mut.result.now p)) grid c.in_ok-messages.ensures.ticks) in
    let out : Output = record { answer = None; letters = c.in_ok-letters_of.field-0; transfer = None; fact = None } in
    record {
      acts = subst (Acts w t (ticks k) out) (put_session_state w v t k new c.index_mut.result.now c.tick.new.self is there (c.tick.ensures.others ∙ ap (λ n. slice_set c.index_mut.result.now n new) (sym again)))
          (tick_acts w t k new c.in_ok-messages.messages out (subst IsShaped is shaped) c.requires.tenant at ticks'
          (record { answer = refl; letters = c.in_ok-letters_of.ensures; transfer = refl; fact = refl }));
    }

pub tick-requires-clause-goes : goal.tick-requires-clause-goes
tick-requires-clause-goes c =
    let t : ℕ = c.args.tenant in
    let p : ℕ = c.args.place in
    let w : Tables = c.args.self.now in
    let k : ℕ = session_at w.plan w.here t p in
    let v : Tables = record { plan = c.self.inside.plan; here = record { node = c.self.inside.node; lost = c.self.inside.lost }; desk = c.self.inside.desk; store = c.self.inside.store; given = c.self.inside.lacks.items; joined = c.self.inside.joined; peers = c.self.inside.peers.items; session_states = c.self.inside.session_states.items } in
    let is : v ≡ w = c.self.view_is in
    let shaped : IsShaped v = c.self.invariant in
    let within : t < length v.plan.rows = subst (λ (x : Tables). t < length x.plan.rows) (sym is) c.requires.tenant in
    let there : c.index_mut.result.now ≡ session_states_at v.session_states t = session_states_read v t v.session_states c.index_mut.result.now _ refl (tenant_there v t shaped within) c.index_mut.ensures.value in
    let few : (row_at w.plan t).sessions ≤ MOST_SESSIONS = (subst IsShaped is shaped).sessions t c.requires.tenant in
    let at : IsOfPlan w t k = placed_at w t p c.requires.place few in
    let again : session_state_place k ≡ p = place_again w.plan w.here t p (omega (arith, few, c.requires.place)) in
    let session_state : session_state_in c.index_mut.result.now p ≡ session_state_at w t k =
    ap (λ (all : List SessionState). session_state_in all p) there ∙ ap (session_state_in (session_states_at v.session_states t)) (sym again) ∙ ap (λ (x : Tables). session_state_at x t k) is in
    subst (λ (x : SessionState). Goes x.operation) (sym session_state) (goes_there w t k c.requires.stands at)
