use Rattle.std.proofs.Common.{◌∙◌, ◌++◌, ℕ, List, ap}
use Rattle.gq_desk.specs.CheckedPlan.{row_at}
use Rattle.gq_node.specs.Sites.{home_place}
use Rattle.gq_plan.specs.PlanWords.{session_line}
use Rattle.gq_plan.proofs.Ranges.{text_more}
use Rattle.gq_plan.proofs.Sessions.{session_told}
use Rattle.gq_plan.proofs.told.put_sessions.Goals as goal

pub loop-place-preserved : goal.loop-place-preserved
loop-place-preserved c =
    let line : ℕ → List ℕ = λ place. session_line (row_at c.args.plan.now c.args.tenant).name place (home_place c.args.plan.now c.args.tenant place) in
    let told = session_told c.args.plan.now c.args.tenant c.loop-place.place c.from.result c.sessions_of-before.result c.servers-servers.result c.row-row.result.now c.rows.result.now c.grid.result.now
    c.row-row.ensures.row c.rows.ensures.rows c.from.ensures c.sessions_of-before.ensures.sessions c.grid.ensures c.servers-servers.ensures.value in
    text_more line c.args.out.now.items c.loop-place.out.items c.put_session.new.out.items c.loop-place.place c.loop-place.invariant
    (c.in_ok-put_session.ensures ∙ ap (λ (text : List ℕ). c.loop-place.out.items ++ text) told)
