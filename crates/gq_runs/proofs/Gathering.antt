-- Each session's requests among its tenant's lines are its requests among all events.
use Rattle.std.proofs.Common.{◌≡◌, ◌∙◌, ◌++◌, ◌==◌, ◌&&◌, ℕ, ◌+◌, ◌<◌, List, [], ◌∷◌, Bool, true, false, Some, None, length, take, map, ap, refl, arith}
use Rattle.std.specs.Prelude.{get_or, replicate, if◌then◌else◌}
use Rattle.std.specs.List.{All, cons_option, filter_map}
use Rattle.std.proofs.lemmas.List.{length-replicate, get_or-replicate}
use Rattle.std.proofs.lemmas.Option.{slice_get-get_or}
use Rattle.gq_desk.specs.CheckedPlan.{CheckedPlan}
use Rattle.gq_model.specs.declared.events.Event.{Event}
use Rattle.gq_model.specs.declared.events.Event.TheVariants.{Tenant, Server, Stray}
use Rattle.gq_model.specs.declared.events.Line.{Line}
use Rattle.gq_session.specs.Fitting.{plan_sessions}
use Rattle.gq_session.specs.declared.fitting.SessionId.{SessionId}
use Rattle.gq_inspect.proofs.Sessions.{session_within}
use Rattle.gq_runs.specs.Gathering.{AreByTenant, line_for, list_at, request_in, requests_at}
use Rattle.gq_runs.specs.Programs.{names_session, requests_for}
use Rattle.gq_runs.proofs.Living.{map_same}
use Rattle.gq_runs.proofs.Programming.{one_picked}

-- ---- no event, and one event more

pub none_by_tenant : (tenants : ℕ) (lists : List (List Line)) → lists ≡ replicate tenants [] → AreByTenant tenants [] lists
none_by_tenant tenants lists is = record {
  count = ap length is ∙ length-replicate tenants [];
  lines = λ t low. ap (λ (all : List (List Line)). list_at all t) is ∙ get_or-replicate tenants t [] [] low;
}

pub more_by_tenant : (tenants : ℕ) (events : List Event) (i : ℕ) (e : Event) (old new : List (List Line)) → i < length events → e ≡ get_or events i e → length new ≡ length old
    → ((t : ℕ) → t < length old → list_at new t ≡ list_at old t ++ cons_option (line_for t e) []) → AreByTenant tenants (take i events) old → AreByTenant tenants (take (i + 1) events) new
more_by_tenant tenants events i e old new within is same added before = record {
  count = same ∙ before.count;
  lines = λ t low. one_picked (line_for t) events i e (line_for t e) (list_at old t) (list_at new t) within is refl (before.lines t low)
      (added t (let count = before.count in omega arith));
}

-- ---- one test after the other

-- the list begins with the request, where the line is one
abbrev then_request : ℕ → Line → Bool → List Line → List Line
then_request k line own rest = cons_option (if own && names_session k line then Some line else None) rest

by_line : (k : ℕ) (line : Line) (own : Bool) (lines : List Line)
    → filter_map (request_in k) (cons_option (if own then Some line else None) lines) ≡ then_request k line own (filter_map (request_in k) lines)
by_line k line true lines = refl
by_line k line false lines = refl

requests_are : (id : SessionId) (events : List Event) → filter_map (request_in id.number) (filter_map (line_for id.tenant) events) ≡ requests_for events id
requests_are id [] = refl
requests_are id (Tenant tenant line ∷ events) =
    by_line id.number line (tenant == id.tenant) (filter_map (line_for id.tenant) events) ∙ ap (then_request id.number line (tenant == id.tenant)) (requests_are id events)
requests_are id (Server line ∷ events) = requests_are id events
requests_are id (Stray ∷ events) = requests_are id events

-- each session is of a tenant of the plan
pub sessions_within : (plan : CheckedPlan) → All (λ (id : SessionId). id.tenant < length plan.rows) (plan_sessions plan)
sessions_within plan k d low = session_within plan k _ (slice_get-get_or (plan_sessions plan) k d low)

pub gathered : (plan : CheckedPlan) (events : List Event) (lists : List (List Line)) → AreByTenant (length plan.rows) events lists → map (requests_at lists) (plan_sessions plan) ≡ map (requests_for events) (plan_sessions plan)
gathered plan events lists are =
    map_same (requests_at lists) (requests_for events) (plan_sessions plan)
    (λ k id at. ap (filter_map (request_in id.number)) (are.lines id.tenant (session_within plan k id at)) ∙ requests_are id events)
