use Rattle.std.proofs.Common.{◌≡◌, ◌∙◌, ◌<◌, map, ap, sym, subst, length}
use Rattle.std.specs.List.{All}
use Rattle.gq_session.specs.Fitting.{plan_sessions}
use Rattle.gq_session.specs.declared.fitting.SessionId.{SessionId}
use Rattle.gq_runs.specs.Gathering.{AreByTenant, requests_at}
use Rattle.gq_runs.proofs.Gathering.{gathered, sessions_within}
use Rattle.gq_runs.proofs.programs.programs_of.Goals as goal

pub requests_of-requires : goal.requests_of-requires
requests_of-requires c =
    let plan = c.args.plan.now in
    let ids : c.as_slice.result.now ≡ plan_sessions plan = c.as_slice.ensures.value ∙ c.in_ok-ids.ensures in
    let count : length c.as_slice-2.result.now ≡ length plan.rows = ap length c.as_slice-2.ensures.value ∙ (c.in_ok-tenants.ensures.count ∙ c.tenants.ensures.value) in
    subst (λ n. All (λ (id : SessionId). id.tenant < n) c.as_slice.result.now) (sym count)
    (subst (All (λ (id : SessionId). id.tenant < length plan.rows)) (sym ids) (sessions_within plan))

pub returns : goal.returns
returns c =
    let plan = c.args.plan.now in let events = c.args.events.now in let tenants = c.as_slice-2.result.now in
    let ids : c.as_slice.result.now ≡ plan_sessions plan = c.as_slice.ensures.value ∙ c.in_ok-ids.ensures in
    let split : AreByTenant (length plan.rows) events tenants =
    subst (λ n. AreByTenant n events tenants) c.tenants.ensures.value (subst (AreByTenant c.tenants.result events) (sym c.as_slice-2.ensures.value) c.in_ok-tenants.ensures) in
    record {
      volumes = c.in_ok-volumes_of.ensures;
      sessions = c.in_ok-requests_of.ensures ∙ ap (map (requests_at tenants)) ids ∙ gathered plan events tenants split;
      changes = c.in_ok-changes_of.ensures;
    }
