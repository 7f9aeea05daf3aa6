-- One session more.
use Rattle.std.proofs.Common.{◌≡◌, ◌∙◌, ◌++◌, map, sym, ap, subst, arith, append-nil, Option}
use Rattle.std.specs.Prelude.{unwrap_or}
use Rattle.gq_node.specs.Needing.{place_numbers, session_states_facts}
use Rattle.gq_desk.specs.declared.plans.TenantRow.{TenantRow}
use Rattle.gq_desk.specs.CheckedPlan.{nobody, row_at}
use Rattle.gq_node.specs.Tables.{Tables, fact_of}
use Rattle.gq_node.proofs.Needing.{put_more}
use Rattle.gq_node.proofs.tables.Core.put_session_states.Goals as goal

pub loop-place-init : goal.loop-place-init
loop-place-init c = sym (append-nil c.args.facts.now.items)

pub loop-place-preserved : goal.loop-place-preserved
loop-place-preserved c = put_more c.args.tenant (place_numbers c.args.self.now c.args.tenant) 0 c.loop-place.place c.loop-place.place c.args.facts.now.items c.loop-place.facts.items c.put_session_state.new.facts.items (omega arith) c.loop-place.invariant c.in_ok-put_session_state.ensures

pub returns : goal.returns
returns c =
    let t = c.args.tenant in
    let rows : (row_at c.self.inside.plan t).sessions ≡ c.row.result.now.sessions = ap (λ (o : Option TenantRow). (unwrap_or o nobody).sessions) c.row.ensures.row in
    let end : c.loop-place.place ≡ c.row.result.now.sessions = omega arith in
    let same : c.loop-place.place ≡ (row_at c.args.self.now.plan t).sessions = end ∙ sym rows ∙ ap (λ (w : Tables). (row_at w.plan t).sessions) c.self.view_is in
    subst (λ n. c.loop-place.facts.items ≡ c.args.facts.now.items ++ map (fact_of t) (session_states_facts c.args.self.now t n)) same c.loop-place.invariant
