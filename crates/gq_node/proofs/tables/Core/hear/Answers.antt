-- The session does what the model's session does.
use Rattle.std.proofs.Common.{◌≡◌, ◌∙◌, ℕ, ◌<◌, List, length, true, ap, refl, sym, subst}
use Rattle.std.specs.Prelude.{slice_set}
use Rattle.std.proofs.lemmas.Result.{IfOk-weaker}
use Rattle.gq_grid.specs.Grid.{Grid}
use Rattle.gq_tag.specs.declared.Message.{Message}
use Rattle.gq_tag.specs.Tag.{own_message}
use Rattle.gq_node.specs.declared.session_states.SessionState.{SessionState}
use Rattle.gq_node.specs.declared.output.Output.{Output}
use Rattle.gq_node.specs.Sites.{Site, session_state_place, site_of, has_session}
use Rattle.gq_node.specs.Local.{Local, hears}
use Rattle.gq_node.specs.SessionStates.{SessionStateAttends, TakenIn}
use Rattle.gq_node.specs.ShortSteps.{with_content, HearsAnyContent}
use Rattle.gq_node.specs.Shape.{IsShaped}
use Rattle.gq_node.specs.Tables.{Tables, Acts, session_states_at, session_state_at, session_state_in, with_session_state}
use Rattle.gq_node.proofs.Placing.{placed, tenant_there, session_states_read}
use Rattle.gq_node.proofs.Attending.{attend_acts}
use Rattle.gq_node.proofs.Sitting.{taken_in}
use Rattle.gq_node.proofs.tables.Core.hear.Goals as goal

pub returns : goal.returns
returns c =
    let m : Message = c.args.message.now in
    let t : ℕ = m.tenant in
    let k : ℕ = m.session in
    let w : Tables = c.args.self.now in
    let V : List (List SessionState) → Tables = λ session_states. record { plan = c.self.inside.plan; here = record { node = c.self.inside.node; lost = c.self.inside.lost }; desk = c.self.inside.desk; store = c.self.inside.store; given = c.self.inside.lacks.items; joined = c.self.inside.joined; peers = c.self.inside.peers.items; session_states = session_states } in
    let v : Tables = V c.self.inside.session_states.items in
    let is : v ≡ w = c.self.view_is in
    let shaped : IsShaped v = c.self.invariant in
    let within : t < length v.plan.rows = subst (λ (x : Tables). t < length x.plan.rows) (sym is) c.requires.tenant in
    let there : c.index_mut.result.now ≡ session_states_at v.session_states t = session_states_read v t v.session_states c.index_mut.result.now _ refl (tenant_there v t shaped within) c.index_mut.ensures.value in
    let place : c.session_state_place.result ≡ session_state_place k = c.session_state_place.ensures.place ∙ ap session_state_place c.from.ensures in
    let new : SessionState = session_state_in c.attend.new.self (session_state_place k) in
    let after : with_session_state v t k new ≡ V (slice_set v.session_states t c.attend.new.self) = ap (λ (all : List SessionState). V (slice_set v.session_states t (slice_set all (session_state_place k) new))) (sym there) ∙ ap (λ all. V (slice_set v.session_states t all)) (sym (c.attend.ensures.others ∙ (λ i. slice_set c.index_mut.result.now (place i) (session_state_in c.attend.new.self (place i))))) in
    let step = λ (site : Site) (local : Local). hears site local (own_message m) in
    let A : ℕ → Output → Type 0 = λ n out. SessionStateAttends t k c.grid.result.now (session_state_in c.index_mut.result.now n) (session_state_in c.attend.new.self n) m out in
    let P : Output → Type 0 = A c.session_state_place.result in
    let Q : Output → Type 0 = λ out. Acts w t step out (V (slice_set v.session_states t c.attend.new.self)) in
    let S : Grid → List SessionState → Output → Type 0 = λ grid all out. SessionStateAttends t k grid (session_state_in all (session_state_place k)) new m out in
    record {
      acts = IfOk-weaker c.attend.result P Q (λ out h.
          let attends : S v.plan.grid (session_states_at v.session_states t) out = subst (λ all. S v.plan.grid all out) there (subst (λ grid. S grid c.index_mut.result.now out) c.grid.ensures (subst (λ n. A n out) place h)) in
          subst (λ (x : Tables). Acts x t step out (V (slice_set v.session_states t c.attend.new.self))) is
          (subst (Acts v t step out) after (attend_acts v t m new out shaped within c.requires.goes (placed v t k (subst (λ (x : Tables). has_session (site_of x.plan x.here t) k ≡ true) (sym is) c.requires.has)) attends))) c.attend.ensures.attends;
      tags = IfOk-weaker c.attend.result
          (λ out. (o : Message) → TakenIn (session_state_in c.index_mut.result.now c.session_state_place.result).operation m o → SessionStateAttends t k c.grid.result.now (session_state_in c.index_mut.result.now c.session_state_place.result) (session_state_in c.attend.new.self c.session_state_place.result) o out)
          (λ out. HearsAnyContent w m out (V (slice_set v.session_states t c.attend.new.self)))
          (λ out h copy takes.
          let o : Message = with_content m copy in
          let U : SessionState → Type 0 = λ session_state. TakenIn session_state.operation m o in
          let of_w : U (session_state_at w t k) = taken_in (session_state_at w t k).operation m copy takes in
          let of_v : U (session_state_in (session_states_at v.session_states t) (session_state_place k)) = subst (λ (x : Tables). U (session_state_in (session_states_at x.session_states t) (session_state_place k))) (sym is) of_w in
          let of_all : U (session_state_in c.index_mut.result.now (session_state_place k)) = subst (λ all. U (session_state_in all (session_state_place k))) (sym there) of_v in
          let taken : U (session_state_in c.index_mut.result.now c.session_state_place.result) = subst (λ n. U (session_state_in c.index_mut.result.now n)) (sym place) of_all in
          let B : ℕ → Type 0 = λ n. SessionStateAttends t k c.grid.result.now (session_state_in c.index_mut.result.now n) (session_state_in c.attend.new.self n) o out in
          let R : Grid → List SessionState → Type 0 = λ grid all. SessionStateAttends t k grid (session_state_in all (session_state_place k)) new o out in
          let attends : R v.plan.grid (session_states_at v.session_states t) = subst (R v.plan.grid) there (subst (λ grid. R grid c.index_mut.result.now) c.grid.ensures (subst B place (h o taken))) in
          let hears_it = λ (site : Site) (local : Local). hears site local (own_message o) in
          subst (λ (x : Tables). Acts x t hears_it out (V (slice_set v.session_states t c.attend.new.self))) is
          (subst (Acts v t hears_it out) after (attend_acts v t o new out shaped within refl (placed v t k (subst (λ (x : Tables). has_session (site_of x.plan x.here t) k ≡ true) (sym is) c.requires.has)) attends))) c.attend.ensures.tags;
    }
