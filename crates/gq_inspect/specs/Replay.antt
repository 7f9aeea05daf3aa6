-- The run that records are.
--
-- All steps of the records stand in one order, by stamp and place. Read along it, each is an event: a change of the board is
-- its server line, a request its line, a retry and an abandonment those of their session, and a letter that is heard or
-- served the delivery of the message that it names. A letter names a message by the step that sent it and by its place
-- among that step's messages; what a step sent is what is told to its event. What is told to each event must be what is
-- recorded.
use Rattle.std.specs.Prelude.{ℕ, ◌≡◌, ◌+◌, ◌*◌, ◌<◌, List, [], ◌∷◌, ◌++◌, Option, Some, option_map, length, slice_get, map}
use Rattle.gq_tag.specs.declared.Message.{Message}
use Rattle.gq_tag.specs.Tag.{message_of}
use Rattle.gq_desk.specs.CheckedPlan.{CheckedPlan}
use Rattle.gq_cell.specs.declared.board.BoardEntry.{BoardEntry}
use Rattle.gq_cell.specs.declared.letter.Letter.{Letter}
use Rattle.gq_cell.specs.declared.letter.CellEntry.{CellEntry}
use Rattle.gq_cell.specs.declared.letter.CellEntry.TheVariants.{Served}
use Rattle.gq_model.specs.declared.events.Event.{Event}
use Rattle.gq_model.specs.declared.events.Event.TheVariants.{Tenant, Server}
use Rattle.gq_model.specs.declared.events.Line.{Line}
use Rattle.gq_model.specs.declared.events.Line.TheVariants.{NewVolume, Deliver, Retry, Abandon}
use Rattle.gq_model.specs.Events.{answer_to, past_at, IsRequestOf}
use Rattle.gq_model.specs.Trace.{questions, own_message_at}
use Rattle.gq_model.specs.Told.{Told, Opened, Began, Replied, Round, Resent, ServerOk}
use Rattle.gq_model.specs.Said.{said_in}
use Rattle.gq_session.specs.Changed.{entry_line}
use Rattle.gq_session.specs.Fitting.{plan_sessions}
use Rattle.gq_session.specs.declared.fitting.SessionId.{SessionId}
use Rattle.gq_session.specs.declared.records.Did.{Did}
use Rattle.gq_session.specs.declared.records.Did.TheVariants.{Asked, Heard, Retried, GaveUp}
use Rattle.gq_session.specs.declared.records.SessionEntry.{SessionEntry}
use Rattle.gq_session.specs.declared.records.Opening.{Opening}
use Rattle.gq_session.specs.declared.records.Records.{Records}
use Rattle.gq_inspect.specs.declared.steps.Step.{Step}
use Rattle.gq_inspect.specs.declared.steps.Origin.{Origin}
use Rattle.gq_inspect.specs.declared.steps.Origin.TheVariants.{Board as OfBoard, Session as OfSession, Server as OfServer}
use Rattle.gq_inspect.specs.declared.replaying.First.{First}
use Rattle.gq_inspect.specs.Steps.{IsOrderOf}
use Rattle.gq_inspect.specs.Lists.{AllClimb, AllFlips}

-- ---- what stood before a step

-- the events so far, and which messages each of their steps sent, as it was told then: a letter names its message by them
pub record Before : Type 0 where
  pub events : List Event
  pub firsts : List First

-- the messages that a tenant's step sent, where it was told this: the number of the first, and how many they are
abbrev pub sent_by : Step → ℕ → Told → List First
sent_by step tenant (Began op first count) = record { stamp = step.stamp; place = step.place; tenant = tenant; first = first; count = count } ∷ []
sent_by step tenant (Round round tag first count) = record { stamp = step.stamp; place = step.place; tenant = tenant; first = first; count = count } ∷ []
sent_by step tenant (Resent first count) = record { stamp = step.stamp; place = step.place; tenant = tenant; first = first; count = count } ∷ []
sent_by step tenant (Replied number) = record { stamp = step.stamp; place = step.place; tenant = tenant; first = number; count = 1 } ∷ []
sent_by step tenant _ = []

-- what stands after a tenant's line, and after a server line
abbrev pub with_line : CheckedPlan → Step → Before → ℕ → Line → Before
with_line plan step b tenant line =
    record { events = b.events ++ Tenant tenant line ∷ []; firsts = b.firsts ++ sent_by step tenant (answer_to plan b.events (Tenant tenant line)) }

abbrev pub before_with : Before → BoardEntry → Before
before_with b e = record { events = b.events ++ Server (entry_line e) ∷ []; firsts = b.firsts }

-- the tenant's message of this number after the events, none where it was never sent or is lost
abbrev pub message_after : CheckedPlan → List Event → ℕ → ℕ → Option Message
message_after plan events tenant number =
    option_map (message_of tenant) (own_message_at (questions (past_at plan tenant events).trace) number)

-- the letter says the message of this number of its tenant: the step of its stamp and lock sent it, at that index among the
-- messages of this step. (`place` is where the step stands in the list; `first.place` is the number of its lock.)
pub record Names (plan : CheckedPlan) (b : Before) (letter : Letter) (number : ℕ) : Type 0 where
  pub first : First
  pub place : ℕ
  pub stood : slice_get b.firsts place ≡ Some first
  pub at_stamp : first.stamp ≡ letter.stamp
  pub at_place : first.place ≡ letter.place
  pub of_tenant : first.tenant ≡ letter.message.tenant
  pub within : letter.index < first.count
  pub number_is : number ≡ first.first + letter.index
  pub message : message_after plan b.events letter.message.tenant number ≡ Some letter.message

-- ---- a step

-- a change of the board is accepted
pub record BoardEntryFits (plan : CheckedPlan) (b : Before) (e : BoardEntry) (after : Before) : Type 0 where
  pub told : answer_to plan b.events (Server (entry_line e)) ≡ ServerOk
  pub left : after ≡ before_with b e

-- the line is the delivery of the letter, which is to the session
pub record Hears (plan : CheckedPlan) (b : Before) (id : SessionId) (letter : Letter) (line : Line) : Type 0 where
  pub number : ℕ
  pub names : Names plan b letter number
  pub tenant : letter.message.tenant ≡ id.tenant
  pub session : letter.message.session ≡ id.number
  pub delivery : line ≡ Deliver number

-- the line is what the session did
abbrev pub IsDeed : CheckedPlan → Before → SessionId → Did → Line → Type 0
IsDeed plan b id (Asked asked) line = (line ≡ asked) × IsRequestOf id.number asked
IsDeed plan b id (Heard letter) line = Hears plan b id letter line
IsDeed plan b id Retried line = line ≡ Retry id.number
IsDeed plan b id GaveUp line = line ≡ Abandon id.number

-- what is told to the session's line is what was recorded
pub record SessionEntryFits (plan : CheckedPlan) (step : Step) (b : Before) (id : SessionId) (e : SessionEntry) (after : Before) : Type 0 where
  pub line : Line
  pub deed : IsDeed plan b id e.did line
  pub told : said_in (answer_to plan b.events (Tenant id.tenant line)) ≡ Some e.said
  pub left : after ≡ with_line plan step b id.tenant line

-- the letter is to the server, which is told to reply, and the reply recorded is the message that it sends
pub record ServedEntryFits (plan : CheckedPlan) (step : Step) (b : Before) (server : ℕ) (letter reply : Letter) (after : Before) : Type 0 where
  pub number : ℕ
  pub names : Names plan b letter number
  pub here : letter.message.server ≡ server
  pub left : after ≡ with_line plan step b letter.message.tenant (Deliver number)
  pub answer : ℕ
  pub told : answer_to plan b.events (Tenant letter.message.tenant (Deliver number)) ≡ Replied answer
  pub sent : message_after plan after.events letter.message.tenant answer ≡ Some reply.message
  pub place : reply.place ≡ step.place
  pub index : reply.index ≡ 0

-- the step's entry, in its list, fits
pub record BoardStep (plan : CheckedPlan) (r : Records) (at : ℕ) (b after : Before) : Type 0 where
  pub entry : BoardEntry
  pub stands : slice_get r.board.items at ≡ Some entry
  pub plays : BoardEntryFits plan b entry after

pub record SessionStep (plan : CheckedPlan) (r : Records) (step : Step) (session : ℕ) (b after : Before) : Type 0 where
  pub id : SessionId
  pub is_of : slice_get (plan_sessions plan) session ≡ Some id
  pub entries : List SessionEntry
  pub list : slice_get r.sessions.items session ≡ Some entries
  pub entry : SessionEntry
  pub stands : slice_get entries step.at ≡ Some entry
  pub plays : SessionEntryFits plan step b id entry after

pub record ServedStep (plan : CheckedPlan) (r : Records) (step : Step) (server : ℕ) (b after : Before) : Type 0 where
  pub journal : List CellEntry
  pub list : slice_get r.cells.items server ≡ Some journal
  pub letter : Letter
  pub reply : Letter
  pub stands : slice_get journal step.at ≡ Some (Served letter reply)
  pub plays : ServedEntryFits plan step b server letter reply after

abbrev pub StepFitsAs : Origin → CheckedPlan → Records → Step → Before → Before → Type 0
StepFitsAs OfBoard plan r step b after = BoardStep plan r step.at b after
StepFitsAs (OfSession session) plan r step b after = SessionStep plan r step session b after
StepFitsAs (OfServer server) plan r step b after = ServedStep plan r step server b after

-- the step fits what stood before it, and leaves this
abbrev pub StepFits : CheckedPlan → Records → Step → Before → Before → Type 0
StepFits plan r step b after = StepFitsAs step.origin plan r step b after

-- ---- the run

-- each step fits what stood before it, and at last these are the events
abbrev pub OrderFits : CheckedPlan → Records → List Step → Before → List Event → Type 0
OrderFits plan r [] b events = b.events ≡ events
OrderFits plan r (step ∷ order) b events = (after : Before) × StepFits plan r step b after × OrderFits plan r order after events

-- the event that asks for the volume
abbrev pub opening_event : Opening → Event
opening_event o = Tenant o.tenant (NewVolume o.files o.blocks)

pub record IsOpened (plan : CheckedPlan) (events : List Event) (o : Opening) : Type 0 where
  pub tenant : o.tenant < length plan.rows
  pub volume : ℕ
  pub told : answer_to plan events (opening_event o) ≡ Opened volume

-- each volume is opened, after the events and the volumes before it
abbrev pub Opens : CheckedPlan → List Event → List Opening → Type 0
Opens plan events [] = Unit {0}
Opens plan events (o ∷ os) = IsOpened plan events o × Opens plan (events ++ opening_event o ∷ []) os

-- the records are the run of these events: there is a list for each server and session; the volumes are opened at first;
-- the stamps of each list rise, and the servers' stops and returns are the board's; and in the order of all steps each fits
pub record IsRunOf (plan : CheckedPlan) (r : Records) (events : List Event) : Type 0 where
  pub servers : length r.cells.items ≡ plan.grid.rows * plan.grid.cols
  pub sessions : length r.sessions.items ≡ length (plan_sessions plan)
  pub opens : Opens plan [] r.volumes.items
  pub climb : AllClimb r
  pub flips : AllFlips r
  pub order : List Step
  pub is_order : IsOrderOf r order
  pub goes : OrderFits plan r order (record { events = map opening_event r.volumes.items; firsts = [] }) events
