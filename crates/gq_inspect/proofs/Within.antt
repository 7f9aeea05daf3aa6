-- The events of a run are in the plan: a volume's tenant is, a session is one of a tenant of the plan, and a letter that is
-- served is of the tenant of the step that sent it.
use Rattle.std.proofs.Common.{◌≡◌, ℕ, ◌<◌, List, [], ◌∷◌, ◌++◌, length, map, All, refl, sym, subst}
use Rattle.std.proofs.lemmas.List.Elements.{All-append, All-cons, All-nil, All-push}
use Rattle.std.proofs.lemmas.Option.{get_or_from_slice_get, slice_get_within}
use Rattle.gq_cell.specs.declared.letter.Letter.{Letter}
use Rattle.gq_desk.specs.CheckedPlan.{CheckedPlan}
use Rattle.gq_model.specs.declared.events.Event.{Event}
use Rattle.gq_model.specs.declared.events.Event.TheVariants.{Tenant, Server}
use Rattle.gq_model.specs.declared.events.Line.{Line}
use Rattle.gq_model.specs.declared.events.Line.TheVariants.{Deliver}
use Rattle.gq_model.specs.Events.{IsIn, answer_to}
use Rattle.gq_model.specs.Told.{Told, Began, Replied, Round, Resent}
use Rattle.gq_session.specs.Changed.{entry_line}
use Rattle.gq_session.specs.declared.records.Opening.{Opening}
use Rattle.gq_session.specs.declared.records.Records.{Records}
use Rattle.gq_inspect.specs.declared.steps.Step.{Step}
use Rattle.gq_inspect.specs.declared.steps.Origin.{Origin}
use Rattle.gq_inspect.specs.declared.steps.Origin.TheVariants.{Board as OfBoard, Session as OfSession, Server as OfServer}
use Rattle.gq_inspect.specs.declared.replaying.First.{First}
use Rattle.gq_inspect.specs.Replay.{Before, sent_by, with_line, before_with, Names, StepFitsAs, OrderFits, opening_event, Opens, IsRunOf}
use Rattle.gq_inspect.proofs.Sessions.{session_within}

abbrev IsOf : CheckedPlan → First → Type 0
IsOf plan first = first.tenant < length plan.rows

-- the events so far are in the plan, and so are the tenants of what was sent
record IsWithin (plan : CheckedPlan) (b : Before) : Type 0 where
  events : All (IsIn plan) b.events
  firsts : All (IsOf plan) b.firsts

sent_within : (plan : CheckedPlan) (step : Step) (tenant : ℕ) → tenant < length plan.rows → (told : Told) → All (IsOf plan) (sent_by step tenant told)
sent_within plan step tenant low = by
  where
    one : (first : First) → first.tenant ≡ tenant → All (IsOf plan) (first ∷ [])
    one first is = All-cons (IsOf plan) first [] (subst (λ t. t < length plan.rows) (sym is) low) (All-nil (IsOf plan))

    by : (told : Told) → All (IsOf plan) (sent_by step tenant told)
    by (Began op first count) = one (record { stamp = step.stamp; place = step.place; tenant = tenant; first = first; count = count }) refl
    by (Round round tag first count) = one (record { stamp = step.stamp; place = step.place; tenant = tenant; first = first; count = count }) refl
    by (Resent first count) = one (record { stamp = step.stamp; place = step.place; tenant = tenant; first = first; count = count }) refl
    by (Replied number) = one (record { stamp = step.stamp; place = step.place; tenant = tenant; first = number; count = 1 }) refl
    by _ = All-nil (IsOf plan)

line_within : (plan : CheckedPlan) (step : Step) (b : Before) (tenant : ℕ) (line : Line) → tenant < length plan.rows → IsWithin plan b → IsWithin plan (with_line plan step b tenant line)
line_within plan step b tenant line low is = record {
  events = All-push (IsIn plan) b.events (Tenant tenant line) is.events low;
  firsts = let told = answer_to plan b.events (Tenant tenant line) in All-append (IsOf plan) b.firsts (sent_by step tenant told) is.firsts (sent_within plan step tenant low told);
}

-- the tenant of a letter that names a message is in the plan
named_within : (plan : CheckedPlan) (b : Before) → IsWithin plan b → (letter : Letter) (number : ℕ) → Names plan b letter number → letter.message.tenant < length plan.rows
named_within plan b is letter number names =
    let first : IsOf plan names.first = subst (IsOf plan) (get_or_from_slice_get b.firsts names.place names.first names.first names.stood) (is.firsts names.place names.first (slice_get_within b.firsts names.place names.first names.stood)) in
    subst (λ t. t < length plan.rows) names.of_tenant first

step_within : (plan : CheckedPlan) (r : Records) (step : Step) (b after : Before) (origin : Origin) → StepFitsAs origin plan r step b after → IsWithin plan b → IsWithin plan after
step_within plan r step b after OfBoard goes is =
    let then : IsWithin plan (before_with b goes.entry) = record { events = All-push (IsIn plan) b.events (Server (entry_line goes.entry)) is.events tt; firsts = is.firsts } in
    subst (IsWithin plan) (sym goes.plays.left) then
step_within plan r step b after (OfSession session) goes is = subst (IsWithin plan) (sym goes.plays.left) (line_within plan step b goes.id.tenant goes.plays.line (session_within plan session goes.id goes.is_of) is)
step_within plan r step b after (OfServer server) goes is =
    let low = named_within plan b is goes.letter goes.plays.number goes.plays.names in
    subst (IsWithin plan) (sym goes.plays.left) (line_within plan step b goes.letter.message.tenant (Deliver goes.plays.number) low is)

steps_within : (plan : CheckedPlan) (r : Records) (order : List Step) (b : Before) (events : List Event) → OrderFits plan r order b events → IsWithin plan b → All (IsIn plan) events
steps_within plan r [] b events goes is = subst (All (IsIn plan)) goes is.events
steps_within plan r (step ∷ order) b events goes is = steps_within plan r order goes.0 events goes.2 (step_within plan r step b goes.0 step.origin goes.1 is)

opened_within : (plan : CheckedPlan) (before : List Event) (openings : List Opening) → Opens plan before openings → All (IsIn plan) (map opening_event openings)
opened_within plan before [] opens = All-nil (IsIn plan)
opened_within plan before (o ∷ openings) opens = All-cons (IsIn plan) (opening_event o) (map opening_event openings) opens.0.tenant (opened_within plan (before ++ opening_event o ∷ []) openings opens.1)

-- the events of a run are in the plan
pub run_within : (plan : CheckedPlan) (r : Records) (events : List Event) → IsRunOf plan r events → All (IsIn plan) events
run_within plan r events run =
    steps_within plan r run.order (record { events = map opening_event r.volumes.items; firsts = [] }) events run.goes
    (record { events = opened_within plan [] r.volumes.items run.opens; firsts = All-nil (IsOf plan) })
