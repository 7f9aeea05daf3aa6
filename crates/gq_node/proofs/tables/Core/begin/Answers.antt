-- The tables with another session of the tenant are still shaped.
use Rattle.std.proofs.Common.{◌≡◌, ◌∙◌, ℕ, ◌<◌, length, refl, sym, ap, subst}
use Rattle.std.proofs.lemmas.List.{length-set}
use Rattle.gq_node.specs.Shape.{IsShaped}
use Rattle.gq_node.specs.Tables.{Tables, session_states_at}
use Rattle.gq_node.proofs.Placing.{tenant_there, session_states_read, seated_shaped}
use Rattle.gq_node.proofs.tables.Core.begin.Goals as goal

pub invariant_of-self : goal.invariant_of-self
invariant_of-self c =
    let t : ℕ = c.args.tenant in
    let v : Tables = record { plan = c.self.inside.plan; here = record { node = c.self.inside.node; lost = c.self.inside.lost }; desk = c.self.inside.desk; store = c.self.inside.store; given = c.self.inside.lacks.items; joined = c.self.inside.joined; peers = c.self.inside.peers.items; session_states = c.self.inside.session_states.items } in
    let shaped : IsShaped v = c.self.invariant in
    let within : t < length v.plan.rows = subst (λ (x : Tables). t < length x.plan.rows) (sym c.self.view_is) c.requires.tenant in
    let there : c.index_mut.result.now ≡ session_states_at v.session_states t = session_states_read v t v.session_states c.index_mut.result.now _ refl (tenant_there v t shaped within) c.index_mut.ensures.value in
    seated_shaped v t c.begin-run.new.self shaped (ap length c.begin-run.ensures.begun ∙ length-set c.index_mut.result.now _ _ ∙ ap length there)
