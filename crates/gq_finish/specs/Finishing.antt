-- What `finish` writes: the lines that complete an operation which an input leaves going.
use Rattle.std.specs.Prelude.{◌≡◌, ℕ, List, [], ◌∷◌, ◌++◌, Bool, true, false, Option, Some, None, All, map}
use Rattle.gq_desk.specs.CheckedPlan.{CheckedPlan, row_at}
use Rattle.gq_desk.specs.Plans.{is_in}
use Rattle.gq_phase.specs.declared.Outcome.{Outcome}
use Rattle.gq_phase.specs.declared.Outcome.TheVariants.{Wrote, Gave, Listed}
use Rattle.gq_phase.specs.Phase.{Operation}
use Rattle.gq_model.specs.declared.events.Event.{Event}
use Rattle.gq_model.specs.declared.events.Event.TheVariants.{Tenant}
use Rattle.gq_model.specs.declared.events.Line.{Line}
use Rattle.gq_model.specs.declared.events.Line.TheVariants.{Deliver, Retry}
use Rattle.gq_model.specs.declared.events.Refusal.TheVariants.{Spent}
use Rattle.gq_model.specs.Told.{Told, Replied, Noted, Round, Done, Resent, Refused}
use Rattle.gq_grid.specs.Grid.{Servers, has_row, has_column}
use Rattle.gq_model.specs.Trace.{questions, operation, up as up_of}
use Rattle.gq_model.specs.Events.{past_at, server_past}
use Rattle.gq_laws.specs.Tenants.{answers_from}
use Rattle.gq_text.specs.Input.{event_of, place_named}
use Rattle.gq_script.specs.Alone.{Accepts}
use Rattle.gq_script.specs.Out.{IsAccepted, IsPlanFaultOf}
use Rattle.gq_script.specs.Completing.{missing_newline, own_lines, CompletesBy}
use Rattle.gq_script.specs.declared.script.RunFault.TheVariants.{Read, TooBig, Memory, Write}
use Rattle.gq_finish.specs.declared.finish.FinishFault.{FinishFault}
use Rattle.gq_finish.specs.declared.finish.FinishFault.TheVariants.{Run, Name, Session, Idle as NoOperation, Steps as TooFewSteps, Row as NoRow, Column as NoColumn, Both as Neither, NoEnd}
use Rattle.gq_finish.specs.declared.finish.Stop.{Stop}
use Rattle.gq_finish.specs.declared.finish.Stop.TheVariants.{Idle, Steps}
use Rattle.gq_text.specs.PlanText.{NamesTenant}

-- ---- what the lines after `go` leave

abbrev pub events_of : CheckedPlan → List (List ℕ) → List Event
events_of plan lines = map (event_of plan) lines

-- the operation of session k of the tenant at place t, none where it has none
abbrev pub operation_left : CheckedPlan → List Event → ℕ → ℕ → Option Operation
operation_left plan events t k = operation (questions (past_at plan t events).trace) k

-- the servers that are up then
abbrev pub up_after : CheckedPlan → List Event → Servers
up_after plan events = up_of (server_past plan events).trace

-- ---- the lines that complete it

-- a retry of session k, and deliveries of the messages of these numbers
abbrev pub finishing : ℕ → List ℕ → List Line
finishing k numbers = Retry k ∷ map Deliver numbers

-- whether an operation goes on after this was told to such a line
abbrev pub goes_on : Told → Bool
goes_on (Resent first count) = true
goes_on (Replied number) = true
goes_on Noted = true
goes_on (Round round tag first count) = true
goes_on _ = false

-- such lines of the tenant at place t, after the events, are answered like this one after another, and the last one by this
pub record Ends (plan : CheckedPlan) (events : List Event) (t k : ℕ) (numbers : List ℕ) (last : Told) : Type 0 where
  pub before : List Told
  pub going : All (λ told. goes_on told ≡ true) before
  pub told : answers_from plan events (map (Tenant t) (finishing k numbers)) ≡ before ++ last ∷ []

-- whose operation ended
abbrev pub outcome_session : Outcome → ℕ
outcome_session (Wrote session op tag) = session
outcome_session (Gave session op copy) = session
outcome_session (Listed session op rows) = session

-- they are answered so until the operation of session k is done
pub record Finishes (plan : CheckedPlan) (events : List Event) (t k : ℕ) (numbers : List ℕ) : Type 0 where
  pub outcome : Outcome
  pub own : outcome_session outcome ≡ k
  pub ends : Ends plan events t k numbers (Done outcome)

-- they are answered so until the tenant's steps are spent
pub record RunsOut (plan : CheckedPlan) (events : List Event) (t k : ℕ) : Type 0 where
  pub numbers : List ℕ
  pub ends : Ends plan events t k numbers (Refused Spent)

-- such lines were appended to a text
pub record Finished (plan : CheckedPlan) (events : List Event) (t k : ℕ) (old text : List ℕ) : Type 0 where
  pub numbers : List ℕ
  pub finishes : Finishes plan events t k numbers
  pub written : text ≡ old ++ own_lines (row_at plan t).name (finishing k numbers)

-- this was told as the operation of session k was done
pub record IsEnd (k : ℕ) (told : Told) : Type 0 where
  pub outcome : Outcome
  pub is : told ≡ Done outcome
  pub own : outcome_session outcome ≡ k

-- why no lines complete it
abbrev pub StopsFor : Stop → CheckedPlan → List Event → ℕ → ℕ → Type 0
StopsFor Idle plan events t k = operation_left plan events t k ≡ None
StopsFor Steps plan events t k = RunsOut plan events t k
StopsFor _ plan events t k = Unit {0}

-- the text is the lines that complete the operation of session k
pub record IsFinish (input : List ℕ) (plan : CheckedPlan) (lines : List (List ℕ)) (t k : ℕ) (text : List ℕ) : Type 0 where
  pub operation : Operation
  pub going : operation_left plan (events_of plan lines) t k ≡ Some operation
  -- behind the newline that the input may miss stand the retry and the deliveries
  pub numbers : List ℕ
  pub written : text ≡ missing_newline input ++ own_lines (row_at plan t).name (finishing k numbers)
  -- behind the input they are answered until the operation is done, and none of them is refused
  pub completes : CompletesBy input plan.grid (row_at plan t).name operation (Retry k) numbers

-- ---- of an input

-- the input is accepted, with this plan and these lines, and the tenant of the name stands at place t of the plan, so that this holds
pub record OfTenant (P : CheckedPlan → List (List ℕ) → ℕ → Type 0) (name input : List ℕ) : Type 0 where
  pub plan : CheckedPlan
  pub lines : List (List ℕ)
  pub accepts : Accepts input plan lines
  pub t : ℕ
  pub place : place_named plan name ≡ Some t
  pub holds : P plan lines t

-- the text completes the operation that the input leaves session k of the tenant of this name
abbrev pub FinishOf : List ℕ → ℕ → List ℕ → List ℕ → Type 0
FinishOf name k input text = OfTenant (λ plan lines t. IsFinish input plan lines t k text) name input

-- the cause of a fault in a session of a tenant of the plan, after these events
abbrev pub CauseOf : FinishFault → CheckedPlan → List Event → ℕ → ℕ → Type 0
CauseOf (Run fault) plan events t k = fault ≡ Memory tt
CauseOf Name plan events t k = ⊥
CauseOf Session plan events t k = is_in 1 (row_at plan t).sessions k ≡ false
CauseOf NoOperation plan events t k = operation_left plan events t k ≡ None
CauseOf TooFewSteps plan events t k = RunsOut plan events t k
CauseOf NoRow plan events t k = (has_row plan.grid (up_after plan events) ≡ false) × (has_column plan.grid (up_after plan events) ≡ true)
CauseOf NoColumn plan events t k = (has_row plan.grid (up_after plan events) ≡ true) × (has_column plan.grid (up_after plan events) ≡ false)
CauseOf Neither plan events t k = (has_row plan.grid (up_after plan events) ≡ false) × (has_column plan.grid (up_after plan events) ≡ false)
CauseOf NoEnd plan events t k = (has_row plan.grid (up_after plan events) ≡ true) × (has_column plan.grid (up_after plan events) ≡ true)

-- it is none of reading or writing
abbrev pub IsOfOutput : FinishFault → Type 0
IsOfOutput (Run Read) = ⊥
IsOfOutput (Run TooBig) = ⊥
IsOfOutput (Run Write) = ⊥
IsOfOutput _ = Unit {0}

-- a fault that the input has has its cause
abbrev pub HasCause : List ℕ → ℕ → List ℕ → FinishFault → Type 0
HasCause name k input (Run fault) = IsPlanFaultOf input fault
HasCause name k input Name = IsAccepted input × (NamesTenant name input → ⊥)
HasCause name k input fault = OfTenant (λ plan lines t. CauseOf fault plan (events_of plan lines) t k) name input
