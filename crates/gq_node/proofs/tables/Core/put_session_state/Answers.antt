-- The session state at the place is that of its session.
use Rattle.std.proofs.Common.{◌≡◌, ◌∙◌, ◌++◌, ℕ, ◌<◌, Bool, List, map, length, sym, ap, subst, arith}
use Rattle.std.specs.Prelude.{OnOk, slice_index_or}
use Rattle.std.proofs.lemmas.List.{append_assoc, map-append}
use Rattle.gq_desk.specs.declared.limits.TheConstants.{MOST_SESSIONS}
use Rattle.gq_cluster.specs.Facts.{OwnFact}
use Rattle.gq_node.specs.declared.output.Fact.{Fact}
use Rattle.gq_node.specs.declared.session_states.SessionState.{SessionState}
use Rattle.gq_node.specs.Needing.{is_own, begun_facts, number_facts, place_numbers}
use Rattle.gq_node.specs.Shape.{IsShaped}
use Rattle.gq_node.specs.Sites.{session_state_place, session_at}
use Rattle.gq_node.specs.Tables.{Tables, session_states_at, session_state_at, fact_of}
use Rattle.gq_node.proofs.Placing.{place_again, tenant_there, session_state_read}
use Rattle.gq_node.proofs.tables.Core.put_session_state.Goals as goal

pub returns : goal.returns
returns c =
    let w : Tables = c.args.self.now in
    let t : ℕ = c.args.tenant in
    let place : ℕ = c.args.place in
    let k : ℕ = session_at w.plan w.here t place in
    let shaped : IsShaped w = subst IsShaped c.self.view_is c.self.invariant in
    let few : place < MOST_SESSIONS = let most = shaped.sessions t c.requires.tenant in let inside = c.requires.place in omega (arith, most, inside) in
    let again : session_state_place k ≡ place = place_again w.plan w.here t place few in
    let within : session_state_place k < length (session_states_at w.session_states t) = subst (λ n. n < length (session_states_at w.session_states t)) (sym again) (subst (λ n. place < n) (sym (shaped.session_states t c.requires.tenant)) c.requires.place) in
    let session_state : c.index-session_state.result.now ≡ session_state_at w t k = session_state_read w t k c.self.inside.session_states.items c.index.result.now c.behind-self.inside.items.items c.index-session_state.result.now c.index-session_state.result.now c.index.result.now
    (ap (λ (x : Tables). x.session_states) c.self.view_is) (tenant_there w t shaped c.requires.tenant) within c.index.ensures c.behind-self.view_is (c.index-session_state.ensures ∙ ap (λ n. slice_index_or c.behind-self.inside.items.items n c.index-session_state.result.now) (sym again)) in
    let F : OwnFact → Fact = fact_of t in
    let before : List Fact = c.args.facts.now.items in
    let op : ℕ = c.index-session_state.result.now.reserved_op in
    let floor : ℕ = c.index-session_state.result.now.reserved_floor in
    let number : ℕ = c.session_at-session.result in
    let own : Bool = c.is_own-own.result in
    let all : c.put_begun.new.facts.items ++ map F (number_facts own number floor) ≡ before ++ map F (place_numbers w t place) =
    ap (λ fs. fs ++ map F (number_facts own number floor)) c.in_ok-put_begun.ensures
    ∙ append_assoc before (map F (begun_facts number op)) (map F (number_facts own number floor))
    ∙ ap (λ fs. before ++ fs) (sym (map-append F (begun_facts number op) (number_facts own number floor)))
    ∙ ap (λ b. before ++ map F (begun_facts number op ++ number_facts b number floor)) c.is_own-own.ensures
    ∙ ap (λ n. before ++ map F (begun_facts n op ++ number_facts (is_own w t n) n floor)) c.session_at-session.ensures
    ∙ ap (λ (x : SessionState). before ++ map F (begun_facts k x.reserved_op ++ number_facts (is_own w t k) k x.reserved_floor)) session_state in
    subst (λ items. OnOk c.put_number.result (c.put_number.new.facts.items ≡ items)) all c.put_number.ensures
