-- A request of a session: why it is refused, and how its operation begins.
use Rattle.std.proofs.Common.{◌≡◌, ◌≢◌, ◌∙◌, ℕ, zero, suc, ◌+◌, ◌*◌, ◌<◌, Bool, true, false, List, [], ◌∷◌, ◌++◌, length, map, refl, sym, ap, subst, Option, Some, None, arith, inl, inr, zero-mul, mul-zero}
use Rattle.std.specs.Prelude.{Result, Ok, Err, IfOk, IsErrOf, ◌↔◌, slice_get, option_map, not, nat_lt, is_some, is_none, unwrap_or, ◌==◌, ◌||◌, if◌then◌else◌}
use Rattle.std.specs.Option.{option_and_then}
use Rattle.std.proofs.lemmas.Bool.{cases_Bool, eq-eqb, eqb-true}
use Rattle.gq_grid.specs.Grid.{Grid, Servers}
use Rattle.gq_grid.specs.Sets.{servers}
use Rattle.gq_grid.specs.declared.ServerSet.{ServerSet}
use Rattle.gq_tag.specs.declared.Message.{Message}
use Rattle.gq_round.specs.declared.Who.{Who}
use Rattle.gq_tag.specs.Tag.{OwnMessage, message_of}
use Rattle.gq_desk.specs.CheckedPlan.{row_at}
use Rattle.gq_desk.specs.declared.plans.TenantRow.{TenantRow}
use Rattle.gq_desk.specs.declared.volumes.VolumeRow.{VolumeRow}
use Rattle.gq_desk.specs.Plans.{is_in}
use Rattle.gq_desk.specs.Volumes.{Account, account_at, limit_in}
use Rattle.gq_replace.specs.Plans.{place_of}
use Rattle.gq_phase.specs.Quorums.{collect_quorum}
use Rattle.gq_phase.specs.declared.Outcome.{Outcome}
use Rattle.gq_phase.specs.declared.operation.Operation.{Operation as Code}
use Rattle.gq_phase.specs.declared.BeginRefused.{BeginRefused}
use Rattle.gq_phase.specs.declared.BeginRefused.TheVariants.{NoQuorum as NoneUp}
use Rattle.gq_phase.specs.Phase.{Task, Writing, Reading, Listing, Operation, begun, round_messages, round_quorum}
use Rattle.gq_phase.specs.Standing.{StandsFor, Begins}
use Rattle.gq_model.specs.declared.events.Refusal.{Refusal}
use Rattle.gq_model.specs.declared.events.Refusal.TheVariants.{NoSession, Busy, NoVolume, NoFile, TooLong, NoQuorum}
use Rattle.gq_model.specs.declared.events.Line.{Line}
use Rattle.gq_model.specs.declared.events.Line.TheVariants.{Bad, Quorum, NewVolume, Volumes, Write, Read, List as ListFiles, Deliver, Lose, Retry, Abandon}
use Rattle.gq_model.specs.Told.{Abandoned, Refused}
use Rattle.gq_model.specs.Trace.{Own, Elsewhere, Begins as BeginsDeed, State, Session, changed, operation_with, session_by, task_of, files_of, account_of}
use Rattle.gq_model.specs.Lone.{Step, Cause, first_cause, session_causes, no_session, busy, no_quorum, quiet, unless, begin_step, asked_step, entry_of, first_operation}
use Rattle.gq_node.specs.declared.session_states.SessionState.{SessionState}
use Rattle.gq_node.specs.declared.output.Answer.{Answer}
use Rattle.gq_node.specs.declared.output.Answer.TheVariants.{Gone, Bad as IsBad}
use Rattle.gq_node.specs.declared.output.Admission.TheVariants.{Tells, Passes, Goes}
use Rattle.gq_node.specs.declared.output.Fact.TheVariants.{Began as FactBegan}
use Rattle.gq_node.specs.declared.output.Output.{Output}
use Rattle.gq_node.specs.Sites.{Site, numbered, site_of, has_session}
use Rattle.gq_node.specs.Local.{Local, Doing, state_for, silently, tells, goes_on, session_fact, asks, asks_in, asked_by, again, own_admission, admission, admission_in, refused_with, aim_at, begins as begins_line, asker}
use Rattle.gq_node.proofs.Aiming.{all_aims_have_quorums}
use Rattle.gq_node.specs.Asking.{volume_causes, file_causes, write_causes, admission_at, MayGo, HasBegunWith, Starts}
use Rattle.gq_cluster.specs.Facts.{Reserved, reserved_by, greatest_op}
use Rattle.gq_node.specs.Heard.{new_run}
use Rattle.gq_node.specs.SessionStates.{busy_session_state, rested_session_state, last_in, session_state_aim, GivesNothing}
use Rattle.gq_node.specs.Shape.{IsShaped}
use Rattle.gq_node.specs.Tables.{Tables, Agrees, Acts, Gives, IsOfPlan, Sits, session_state_at, with_session_state}
use Rattle.gq_node.proofs.Reserving.{begun_reserves, begun_keeps, begun_gives_fact}
use Rattle.gq_node.proofs.Placing.{Settles, aim_is, placed, is_number, session_state_of, session_state_leads, session_state_there, same_leads, last_agrees}

-- ---- a session of the tables

is_busy : (grid : Grid) (t own last : ℕ) (code : Option Code) (k : ℕ) (s : Session) (current : Option Task) → Sits grid t own code last (option_map (operation_with k s) current) → is_some current ≡ is_some code
is_busy grid t own last None k s None sits = refl
is_busy grid t own last None k s (Some task) sits = absurd sits
is_busy grid t own last (Some code) k s None sits = absurd sits
is_busy grid t own last (Some code) k s (Some task) sits = refl

is_idle : (grid : Grid) (t own last : ℕ) (code : Option Code) (k : ℕ) (s : Session) (current : Option Task) → Sits grid t own code last (option_map (operation_with k s) current) → is_none current ≡ is_none code
is_idle grid t own last None k s None sits = refl
is_idle grid t own last None k s (Some task) sits = absurd sits
is_idle grid t own last (Some code) k s None sits = absurd sits
is_idle grid t own last (Some code) k s (Some task) sits = refl

floor_is : (grid : Grid) (t own last : ℕ) (code : Option Code) (k : ℕ) (s : Session) (current : Option Task) → code ≡ None → Sits grid t own code last (option_map (operation_with k s) current) → own ≡ last
floor_is grid t own last None k s None is sits = sits
floor_is grid t own last None k s (Some task) is sits = absurd sits
floor_is grid t own last (Some code) k s current is sits = absurd (cc)

-- what is so where no cause holds
pub first_none : (cause : Cause) (causes : List Cause) → first_cause (cause ∷ causes) ≡ None → (cause.0 ≡ false) × (first_cause causes ≡ None)
first_none cause causes is = by cause.0 refl
  where
    by : (b : Bool) → cause.0 ≡ b → (cause.0 ≡ false) × (first_cause causes ≡ None)
    by true e = let h : ◌≡◌ {A = Option Refusal} (Some cause.1) None = rw e at is in absurd (cc)
    by false e = (e, rw e at is)

some_not_none : (o : Option Task) → is_some o ≡ true → is_none o ≡ false
some_not_none None is = absurd (cc)
some_not_none (Some task) is = refl

none_is : (o : Option Code) → is_some o ≡ false → o ≡ None
none_is None is = refl
none_is (Some code) is = absurd (cc)

not_false : (b : Bool) → not b ≡ false → b ≡ true
not_false true e = refl
not_false false e = sym e

-- ---- what the number of a request decides

admission_is : (w : Tables) (t k op : ℕ) (b : Bool) (local : Local) → Agrees w t local → admission_at w t k op b ≡ admission_in (site_of w.plan w.here t) local k op b
admission_is w t k op b local agrees = elim (cases_Bool (has_session (site_of w.plan w.here t) k)) [
  | inr outside ↦ (rw outside refl)
  | inl inside ↦ (
      let site : Site = site_of w.plan w.here t in
      let at = placed w t k inside in
      let session_state = session_state_of w t k local agrees at in
      let old : SessionState = session_state_at w t k in
      let session : Session = (local.residents k).session in
      ap (λ n. admission site k op b n (is_some old.operation) old.outcome) session_state.op
      ∙ ap (λ going. admission site k op b session.op going old.outcome) (sym (is_busy w.plan.grid t old.floor session.floor old.operation k session session.current session_state.sits))
      ∙ ap (admission site k op b session.op (is_some session.current)) session_state.outcome)
]

admission_tells : (site : Site) (local : Local) (op : ℕ) (line : Line) (k : ℕ) (answer : Answer) → admission_in site local k op (begins_line line) ≡ Tells answer → asks_in site local op line k ≡ tells local answer
admission_tells site local op line k answer is = rw is refl

admission_passes : (site : Site) (local : Local) (op : ℕ) (line : Line) (k : ℕ) → admission_in site local k op (begins_line line) ≡ Passes → asks_in site local op line k ≡ silently local
admission_passes site local op line k is = rw is refl

admission_goes : (site : Site) (local : Local) (op : ℕ) (line : Line) (k : ℕ) → admission_in site local k op (begins_line line) ≡ Goes →
    asks_in site local op line k ≡ asked_by local k op (state_for site local k) line (asked_step site.grid site.row (state_for site local k) line)
admission_goes site local op line k is = rw is refl

-- where the number lets the request go, there is the session
pub goes_inside : (w : Tables) (t k op : ℕ) (b : Bool) → admission_at w t k op b ≡ Goes → has_session (site_of w.plan w.here t) k ≡ true
goes_inside w t k op b goes = elim (cases_Bool (has_session (site_of w.plan w.here t) k)) [
  | inl inside ↦ inside
  | inr outside ↦ (let e = rw outside at goes in absurd (cc))
]

pub goes_placed : (w : Tables) (t k op : ℕ) (b : Bool) → admission_at w t k op b ≡ Goes → IsOfPlan w t k
goes_placed w t k op b goes = placed w t k (goes_inside w t k op b goes)

-- and its home is here
pub goes_home : (site : Site) (k op last : ℕ) (b going : Bool) (outcome : Option Outcome) → admission site k op b last going outcome ≡ Goes → (has_session site k ≡ true) × ((site.home k == site.here) ≡ true) × (own_admission k op b last going outcome ≡ Goes)
goes_home site k op last b going outcome goes = elim (cases_Bool (has_session site k)) [
  | inr outside ↦ (let e = rw outside at goes in absurd (cc))
  | inl inside ↦ (elim (cases_Bool (site.home k == site.here)) [
    | inr away ↦ (let e = rw (inside, away) at goes in absurd (cc))
    | inl here ↦ (inside, here, (rw (inside, here) at goes))
  ])
]

-- a request that begins has the number after the last one
never_again : (k op : ℕ) (going : Bool) (outcome : Option Outcome) → again k op true going outcome ≡ Goes → ⊥
never_again k op true outcome goes = cc
never_again k op false outcome goes = cc

pub next_number : (k op last : ℕ) (going : Bool) (outcome : Option Outcome) → own_admission k op true last going outcome ≡ Goes → op ≡ last + 1
next_number k op last going outcome goes = elim (cases_Bool (nat_lt op last || op == 0)) [
  | inl old ↦ (let e = rw old at goes in absurd (cc))
  | inr not_old ↦ (elim (cases_Bool (op == last)) [
    | inl same ↦ (absurd (never_again k op going outcome (rw (not_old, same) at goes)))
    | inr other ↦ (elim (cases_Bool (op == last + 1)) [
      | inl next ↦ (eqb-true op (last + 1) next)
      | inr apart ↦ (let e = rw (not_old, other, apart) at goes in absurd (cc))
    ])
  ])
]

pub goes_number : (w : Tables) (t k op : ℕ) → admission_at w t k op true ≡ Goes → op ≡ (session_state_at w t k).op + 1
goes_number w t k op goes =
    let old : SessionState = session_state_at w t k in
    next_number k op old.op (is_some old.operation) old.outcome (goes_home (site_of w.plan w.here t) k op old.op true (is_some old.operation) old.outcome goes).2

-- so the last number is not the greatest
pub below : (op last : ℕ) → op ≡ last + 1 → op < 4294967296 → last < 4294967295
below op last is small = omega arith

-- one that is given up goes on
pub gives_up : (k op last : ℕ) (going : Bool) (outcome : Option Outcome) → own_admission k op false last going outcome ≡ Goes → going ≡ true
gives_up k op last true outcome goes = refl
gives_up k op last false outcome goes = elim (cases_Bool (nat_lt op last || op == 0)) [
  | inl old ↦ (let e = rw old at goes in absurd (cc))
  | inr not_old ↦ (elim (cases_Bool (op == last)) [
    | inl same ↦ (let e = rw (not_old, same) at goes in absurd (cc))
    | inr other ↦ (let e = rw (not_old, other) at goes in absurd (cc))
  ])
]

going_there : (w : Tables) (t k op : ℕ) → admission_at w t k op false ≡ Goes → is_some (session_state_at w t k).operation ≡ true
going_there w t k op goes =
    let old : SessionState = session_state_at w t k in
    gives_up k op old.op (is_some old.operation) old.outcome (goes_home (site_of w.plan w.here t) k op old.op false (is_some old.operation) old.outcome goes).2

-- the line is a request of session k
pub record IsOf (k : ℕ) (line : Line) : Type 0 where
  pub asks : (op : ℕ) (site : Site) (local : Local) → asks op line site local ≡ asks_in site local op line k

pub of_line : (k : ℕ) (line : Line) → asker line ≡ Some k → IsOf k line
of_line k line is = record { asks = λ op site local. rw is refl }

-- the tenant is told this alone
pub record IsTold (answer : Answer) (out : Output) : Type 0 where
  pub answer_is : out.answer ≡ Some answer
  pub letters : out.letters.items ≡ []
  pub transfer : out.transfer ≡ None
  pub fact : out.fact ≡ None

told_acts : (w : Tables) (t : ℕ) (step : Site → Local → Doing) (answer : Answer) (out : Output) → ((local : Local) → Agrees w t local → step (site_of w.plan w.here t) local ≡ tells local answer) → IsTold answer out → Acts w t step out w
told_acts w t step answer out does told = record {
  leads = same_leads w t step (λ local agrees. ap (λ (d : Doing). d.local) (does local agrees));
  gives = λ local agrees. subst (λ (d : Doing). Gives t d out) (sym (does local agrees)) (record { answer = told.answer_is; letters = told.letters; transfer = told.transfer; fact = told.fact });
}

pub told_by_number : (w : Tables) (t k op : ℕ) (line : Line) (answer : Answer) (out : Output) → IsOf k line → admission_at w t k op (begins_line line) ≡ Tells answer → IsTold answer out → Acts w t (asks op line) out w
told_by_number w t k op line answer out of is told =
    told_acts w t (asks op line) answer out (λ local agrees. of.asks op (site_of w.plan w.here t) local ∙ admission_tells (site_of w.plan w.here t) local op line k answer (sym (admission_is w t k op (begins_line line) local agrees) ∙ is)) told

pub passed_by_number : (w : Tables) (t k op : ℕ) (line : Line) (out : Output) → IsOf k line → admission_at w t k op (begins_line line) ≡ Passes → GivesNothing out → Acts w t (asks op line) out w
passed_by_number w t k op line out of is none =
    let does : (local : Local) → Agrees w t local → asks op line (site_of w.plan w.here t) local ≡ silently local =
    λ local agrees. of.asks op (site_of w.plan w.here t) local ∙ admission_passes (site_of w.plan w.here t) local op line k (sym (admission_is w t k op (begins_line line) local agrees) ∙ is) in
    record {
      leads = same_leads w t (asks op line) (λ local agrees. ap (λ (d : Doing). d.local) (does local agrees));
      gives = λ local agrees. subst (λ (d : Doing). Gives t d out) (sym (does local agrees)) (record { answer = none.answer; letters = none.letters; transfer = none.transfer; fact = none.fact });
    }

-- the model refuses it
pub refused_acts : (w : Tables) (t k op : ℕ) (line : Line) (word : Refusal) (out : Output) → IsOf k line → admission_at w t k op (begins_line line) ≡ Goes →
    ((local : Local) → Agrees w t local → asked_step w.plan.grid (numbered (row_at w.plan t)) (state_for (site_of w.plan w.here t) local k) line ≡ quiet (Refused word)) → IsTold (refused_with k op (session_state_at w t k).op word) out → Acts w t (asks op line) out w
refused_acts w t k op line word out of goes refuses told =
    let site : Site = site_of w.plan w.here t in
    let at = goes_placed w t k op (begins_line line) goes in
    told_acts w t (asks op line) (refused_with k op (session_state_at w t k).op word) out (λ local agrees.
    of.asks op site local ∙ admission_goes site local op line k (sym (admission_is w t k op (begins_line line) local agrees) ∙ goes)
    ∙ ap (asked_by local k op (state_for site local k) line) (refuses local agrees)
    ∙ ap (λ last. tells local (refused_with k op last word)) (sym (session_state_of w t k local agrees at).op)) told

-- ---- the causes in the tables are those of the model

-- the first cause of these, or the last one
abbrev else_cause : Option Refusal → Cause → Option Refusal
else_cause (Some word) cause = Some word
else_cause None cause = first_cause (cause ∷ [])

chain : (causes : List Cause) (last : Cause) → first_cause (causes ++ last ∷ []) ≡ else_cause (first_cause causes) last
chain [] last = refl
chain (cause ∷ causes) last = by cause.0 (chain causes last)
  where
    by : (b : Bool) → first_cause (causes ++ last ∷ []) ≡ else_cause (first_cause causes) last → (if b then Some cause.1 else first_cause (causes ++ last ∷ [])) ≡ else_cause (if b then Some cause.1 else first_cause causes) last
    by true rest = refl
    by false rest = rest

abbrev not_there : Tables → ℕ → ℕ → Cause
not_there w t k = (not (has_session (site_of w.plan w.here t) k), NoSession)

abbrev busy_at : Tables → ℕ → ℕ → Cause
busy_at w t k = (is_some (session_state_at w t k).operation, Busy)

-- the answers for session k
abbrev state_at : Tables → ℕ → ℕ → Local → State
state_at w t k local = state_for (site_of w.plan w.here t) local k

account_is : (w : Tables) (t k : ℕ) (local : Local) → Agrees w t local → account_at w.desk t ≡ account_of (numbered (row_at w.plan t)) (state_at w t k local)
account_is w t k local agrees = agrees.account

-- the rest is asked of the tenant's account, which is that of the model
causes_are : (w : Tables) (t k : ℕ) (rest : Account → List Cause) (local : Local) → has_session (site_of w.plan w.here t) k ≡ true → Agrees w t local →
    first_cause (no_session (numbered (row_at w.plan t)) k ∷ busy (state_at w t k local) k ∷ rest (account_of (numbered (row_at w.plan t)) (state_at w t k local)) ++ no_quorum w.plan.grid (state_at w t k local) 1 ∷ [])
    ≡ else_cause (first_cause (not_there w t k ∷ busy_at w t k ∷ rest (account_at w.desk t))) (no_quorum w.plan.grid (state_at w t k local) 1)
causes_are w t k rest local inside agrees =
    let row : TenantRow = numbered (row_at w.plan t) in
    let state : State = state_at w t k local in
    let session_state = session_state_of w t k local agrees (placed w t k inside) in
    let old : SessionState = session_state_at w t k in
    let same : is_some (state.session k).current ≡ is_some old.operation =
    is_busy w.plan.grid t old.floor (state.session k).floor old.operation k (state.session k) (state.session k).current session_state.sits in
    let last : Cause = no_quorum w.plan.grid state 1 in
    let there : not (is_in 1 row.sessions k) ≡ not (has_session (site_of w.plan w.here t) k) = ap not (is_number (site_of w.plan w.here t) k inside ∙ sym inside) in
    let C : Bool → Bool → Account → Option Refusal = λ n b a. first_cause ((n, NoSession) ∷ (b, Busy) ∷ rest a ++ last ∷ []) in
    ap (λ n. C n (is_some (state.session k).current) (account_of row state)) there
    ∙ ap (λ b. C (not (has_session (site_of w.plan w.here t) k)) b (account_of row state)) same
    ∙ ap (C (not (has_session (site_of w.plan w.here t) k)) (is_some old.operation)) (sym (account_is w t k local agrees))
    ∙ chain (not_there w t k ∷ busy_at w t k ∷ rest (account_at w.desk t)) last

-- where no cause holds there is such a session, which has no operation
there_at_rest : (w : Tables) (t k : ℕ) (rest : List Cause) → first_cause (not_there w t k ∷ busy_at w t k ∷ rest) ≡ None →
    IsOfPlan w t k × ((session_state_at w t k).operation ≡ None)
there_at_rest w t k rest is =
    let a = first_none (not_there w t k) (busy_at w t k ∷ rest) is in
    let b = first_none (busy_at w t k) rest a.1 in
    (placed w t k (not_false (has_session (site_of w.plan w.here t) k) a.0), none_is (session_state_at w t k).operation b.0)

-- ---- the session after it

abbrev pub write_task : ℕ → ℕ → List ℕ → Task
write_task v f bytes = Writing (record { volume = v; place = f }) bytes

abbrev pub read_task : ℕ → ℕ → Task
read_task v f = Reading (record { volume = v; place = f })

abbrev pub list_task : Tables → ℕ → ℕ → Task
list_task w t v = Listing v (files_of (account_at w.desk t).volumes v)

abbrev begun_session : Session → Task → Session
begun_session s task = record { op = s.op + 1; current = Some task; round = 1; heard = []; collected = []; floor = s.floor }

-- the line that asks for the task begins it
session_begins : (volumes : List VolumeRow) (k : ℕ) (line : Line) (task : Task) (s : Session) → task_of volumes line ≡ Some task → session_by volumes k (if k == k then BeginsDeed line else Elsewhere) s ≡ begun_session s task
session_begins volumes k line task s asks =
    rw (eq-eqb k k refl) (ap (λ current. record { op = s.op + 1; current = current; round = 1; heard = []; collected = []; floor = s.floor }) asks)

-- ---- requests

-- the line asks session k to do the task, unless one of these causes holds in the tables or there is no quorum
pub record IsRequest (w : Tables) (t k : ℕ) (task : Task) (line : Line) (causes : List Cause) : Type 0 where
  pub is_of : IsOf k line
  pub begins : begins_line line ≡ true
  pub session : first_cause causes ≡ None → IsOfPlan w t k × ((session_state_at w t k).operation ≡ None)
  pub same : (local : Local) → has_session (site_of w.plan w.here t) k ≡ true → Agrees w t local → first_cause (session_causes w.plan.grid (numbered (row_at w.plan t)) (state_at w t k local) line) ≡ else_cause (first_cause causes) (no_quorum w.plan.grid (state_at w t k local) 1)
  pub asks : (local : Local) → Agrees w t local → asked_step w.plan.grid (numbered (row_at w.plan t)) (state_at w t k local) line ≡ unless (first_cause (session_causes w.plan.grid (numbered (row_at w.plan t)) (state_at w t k local) line)) (begin_step w.plan.grid (state_at w t k local) k (Some task))
  pub does : (local : Local) → Agrees w t local → (s : Step) → (changed (entry_of (state_at w t k local) (Own line) s) (state_at w t k local)).session k ≡ begun_session (local.residents k).session task

abbrev volume_rest : ℕ → Account → List Cause
volume_rest v a = (not (nat_lt v (length a.volumes)), NoVolume) ∷ []

abbrev file_rest : ℕ → ℕ → Account → List Cause
file_rest v f a = volume_rest v a ++ (is_none (option_and_then (limit_in f) (slice_get a.volumes v)), NoFile) ∷ []

abbrev write_rest : ℕ → ℕ → List ℕ → Account → List Cause
write_rest v f bytes a = file_rest v f a ++ (nat_lt (unwrap_or (option_and_then (limit_in f) (slice_get a.volumes v)) 0) (length bytes), TooLong) ∷ []

pub is_write : (w : Tables) (t k v f : ℕ) (bytes : List ℕ) → IsRequest w t k (write_task v f bytes) (Write k v f bytes) (write_causes w t k v f bytes)
is_write w t k v f bytes = record {
  is_of = of_line k (Write k v f bytes) refl;
  begins = refl;
  session = there_at_rest w t k (write_rest v f bytes (account_at w.desk t));
  same = causes_are w t k (write_rest v f bytes);
  asks = λ local agrees. refl;
  does = λ local agrees s. session_begins local.volumes k (Write k v f bytes) (write_task v f bytes) (local.residents k).session refl;
}

pub is_read : (w : Tables) (t k v f : ℕ) → IsRequest w t k (read_task v f) (Read k v f) (file_causes w t k v f)
is_read w t k v f = record {
  is_of = of_line k (Read k v f) refl;
  begins = refl;
  session = there_at_rest w t k (file_rest v f (account_at w.desk t));
  same = causes_are w t k (file_rest v f);
  asks = λ local agrees. refl;
  does = λ local agrees s. session_begins local.volumes k (Read k v f) (read_task v f) (local.residents k).session refl;
}

pub is_list : (w : Tables) (t k v : ℕ) → IsRequest w t k (list_task w t v) (ListFiles k v) (volume_causes w t k v)
is_list w t k v = record {
  is_of = of_line k (ListFiles k v) refl;
  begins = refl;
  session = there_at_rest w t k (volume_rest v (account_at w.desk t));
  same = causes_are w t k (volume_rest v);
  asks = λ local agrees. ap (λ n. unless (first_cause (session_causes w.plan.grid (numbered (row_at w.plan t)) (state_at w t k local) (ListFiles k v))) (begin_step w.plan.grid (state_at w t k local) k (Some (Listing v n)))) (files_are w t v local agrees);
  does = λ local agrees s. session_begins local.volumes k (ListFiles k v) (list_task w t v) (local.residents k).session (ap (λ n. Some (Listing v n)) (files_are w t v local agrees));
}
  where
    files_are : (w : Tables) (t v : ℕ) (local : Local) → Agrees w t local → files_of local.volumes v ≡ files_of (account_at w.desk t).volumes v
    files_are w t v local agrees = ap (λ (a : Account). files_of a.volumes v) (sym agrees.account)

-- ---- it is refused

early : (w : Tables) (t k : ℕ) (task : Task) (line : Line) (causes : List Cause) (word : Refusal) → IsRequest w t k task line causes → has_session (site_of w.plan w.here t) k ≡ true → first_cause causes ≡ Some word → (local : Local) → Agrees w t local →
    asked_step w.plan.grid (numbered (row_at w.plan t)) (state_at w t k local) line ≡ quiet (Refused word)
early w t k task line causes word r inside is local agrees =
    r.asks local agrees
    ∙ ap (λ o. unless o (begin_step w.plan.grid (state_at w t k local) k (Some task))) (r.same local inside agrees ∙ ap (λ o. else_cause o (no_quorum w.plan.grid (state_at w t k local) 1)) is)

pub early_acts : (w : Tables) (t k op : ℕ) (task : Task) (line : Line) (causes : List Cause) (word : Refusal) (out : Output) → IsRequest w t k task line causes → admission_at w t k op true ≡ Goes → first_cause causes ≡ Some word →
    IsTold (refused_with k op (session_state_at w t k).op word) out → Acts w t (asks op line) out w
early_acts w t k op task line causes word out r goes is told =
    refused_acts w t k op line word out r.is_of (ap (admission_at w t k op) r.begins ∙ goes) (early w t k task line causes word r (goes_inside w t k op true goes) is) told

-- whom the session asks
its_aim : (w : Tables) (t k : ℕ) (local : Local) → Agrees w t local → IsOfPlan w t k → session_state_aim w.plan.grid (session_state_at w t k) ≡ aim_at w.plan.grid (local.residents k)
its_aim w t k local agrees at = aim_is w.plan.grid t k (session_state_at w t k) (local.residents k) (session_state_of w t k local agrees at)

some_rows : (rows cols n : ℕ) → n < rows * cols → 0 < rows
some_rows zero cols n less = absurd (omega (arith, zero-mul cols))
some_rows (suc rows) cols n less = omega arith

some_cols : (rows cols n : ℕ) → n < rows * cols → 0 < cols
some_cols rows zero n less = absurd (omega (arith, mul-zero rows))
some_cols rows (suc cols) n less = omega arith

-- a full row and a full column, so there is a quorum
quorum_there : (w : Tables) (t k : ℕ) → IsShaped w → collect_quorum w.plan.grid (session_state_aim w.plan.grid (session_state_at w t k)) ≢ None
quorum_there w t k shaped =
    let grid : Grid = w.plan.grid in
    (all_aims_have_quorums grid (session_state_at w t k).row (session_state_at w t k).column (some_rows grid.rows grid.cols (place_of w.here.node) shaped.place) (some_cols grid.rows grid.cols (place_of w.here.node) shaped.place)).0

-- so no operation is refused for want of one
pub never_refused : (w : Tables) (t k : ℕ) (began : Result (Code × List Message) BeginRefused) (grid : Grid) (set : ServerSet) → IsShaped w → grid ≡ w.plan.grid → servers set ≡ session_state_aim w.plan.grid (session_state_at w t k) →
    (IsErrOf began NoneUp ↔ (collect_quorum grid (servers set) ≡ None)) → ¬ IsErrOf began NoneUp
never_refused w t k began grid set shaped grid_is up_is none is =
    quorum_there w t k shaped (ap (collect_quorum w.plan.grid) (sym up_is) ∙ ap (λ g. collect_quorum g (servers set)) (sym grid_is) ∙ none.0 is)

-- ---- it begins

-- the operation that begins in the tables
abbrev pub first_at : Tables → ℕ → ℕ → Task → Operation
first_at w t k task = begun k ((session_state_at w t k).op + 1) task (session_state_at w t k).floor

is_there : (q : Option Servers) → q ≢ None → is_none q ≡ false
is_there None h = absurd (h refl)
is_there (Some set) h = refl

begins_so : (w : Tables) (t k : ℕ) (task : Task) (line : Line) (causes : List Cause) (local : Local) → IsRequest w t k task line causes → has_session (site_of w.plan w.here t) k ≡ true → Agrees w t local → first_cause causes ≡ None → collect_quorum w.plan.grid (session_state_aim w.plan.grid (session_state_at w t k)) ≢ None →
    asked_step w.plan.grid (numbered (row_at w.plan t)) (state_at w t k local) line ≡ begin_step w.plan.grid (state_at w t k local) k (Some task)
begins_so w t k task line causes local r inside agrees asked there =
    let s = r.session asked in
    let q : is_none (round_quorum w.plan.grid (aim_at w.plan.grid (local.residents k)) 1) ≡ false = ap (λ up. is_none (collect_quorum w.plan.grid up)) (sym (its_aim w t k local agrees s.0)) ∙ is_there (collect_quorum w.plan.grid (session_state_aim w.plan.grid (session_state_at w t k))) there in
    let none : first_cause (session_causes w.plan.grid (numbered (row_at w.plan t)) (state_at w t k local) line) ≡ None =
    r.same local inside agrees ∙ ap (λ o. else_cause o (no_quorum w.plan.grid (state_at w t k local) 1)) asked ∙ ap (λ b. first_cause ((b, NoQuorum) ∷ [])) q in
    r.asks local agrees ∙ ap (λ o. unless o (begin_step w.plan.grid (state_at w t k local) k (Some task))) none

first_is : (w : Tables) (t k : ℕ) (task : Task) (local : Local) → Agrees w t local → IsOfPlan w t k × ((session_state_at w t k).operation ≡ None) → first_at w t k task ≡ first_operation (state_at w t k local) k task
first_is w t k task local agrees s =
    let old : SessionState = session_state_at w t k in
    let session : Session = (local.residents k).session in
    let session_state = session_state_of w t k local agrees s.0 in
    let floor = floor_is w.plan.grid t old.floor session.floor old.operation k session session.current s.1 session_state.sits in
    ap (λ op. begun k (op + 1) task old.floor) session_state.op ∙ ap (begun k (session.op + 1) task) floor

-- what began for the session
pub record IsBegun (w : Tables) (t k op : ℕ) (task : Task) (line : Line) (causes : List Cause) (code : Code) (messages : List Message) : Type 0 where
  pub request : IsRequest w t k task line causes
  pub goes : admission_at w t k op true ≡ Goes
  pub asked : first_cause causes ≡ None
  pub quorum : collect_quorum w.plan.grid (session_state_aim w.plan.grid (session_state_at w t k)) ≢ None
  pub begins : Begins w.plan.grid (record { tenant = t; session = k; op = (session_state_at w t k).op + 1 }) task (session_state_at w t k).floor (session_state_aim w.plan.grid (session_state_at w t k)) code messages

-- the model's messages
abbrev first_messages : Tables → ℕ → ℕ → Task → Local → List OwnMessage
first_messages w t k task local = round_messages w.plan.grid (aim_at w.plan.grid (local.residents k)) (first_operation (state_at w t k local) k task)

-- the step of the model
abbrev first_step : Tables → ℕ → ℕ → Task → Local → Step
first_step w t k task local = begin_step w.plan.grid (state_at w t k local) k (Some task)

does_is : (w : Tables) (t k op : ℕ) (task : Task) (line : Line) (causes : List Cause) (code : Code) (messages : List Message) (local : Local) → IsBegun w t k op task line causes code messages → Agrees w t local →
    asks op line (site_of w.plan w.here t) local ≡ goes_on local k op false (state_at w t k local) (entry_of (state_at w t k local) (Own line) (first_step w t k task local))
does_is w t k op task line causes code messages local h agrees =
    let site : Site = site_of w.plan w.here t in
    let r : IsRequest w t k task line causes = h.request in
    let goes = ap (admission_in site local k op) r.begins ∙ sym (admission_is w t k op true local agrees) ∙ h.goes in
    r.is_of.asks op site local ∙ admission_goes site local op line k goes
    ∙ ap (asked_by local k op (state_at w t k local) line) (begins_so w t k task line causes local r (goes_inside w t k op true h.goes) agrees h.asked h.quorum)

begun_settles : (w : Tables) (t k op : ℕ) (task : Task) (line : Line) (causes : List Cause) (code : Code) (messages : List Message) (local : Local) → IsBegun w t k op task line causes code messages → Agrees w t local →
    Settles w t k (busy_session_state (session_state_at w t k) code) (asks op line) local
begun_settles w t k op task line causes code messages local h agrees =
    let old : SessionState = session_state_at w t k in
    let state : State = state_at w t k local in
    let r : IsRequest w t k task line causes = h.request in
    let s = r.session h.asked in
    let session_state = session_state_of w t k local agrees s.0 in
    let step : Step = first_step w t k task local in
    let P : Session → Type 0 = λ x. (old.op + 1 ≡ x.op) × Sits w.plan.grid t old.floor (Some code) x.floor (option_map (operation_with k x) x.current) in
    let session : Session = (local.residents k).session in
    let after : Session = (changed (entry_of state (Own line) step) state).session k in
    let first : ℕ = length state.sent in
    let count : ℕ = length step.new in
    let r' : Reserved = (local.residents k).reserved in
    let now : P after = subst P (sym (r.does local agrees step))
    (ap (λ n. n + 1) session_state.op, subst (StandsFor w.plan.grid t code) (first_is w t k task local agrees s) h.begins.0) in
    record {
      resident = record (local.residents k) {
        session = after;
        reserved = reserved_by (session_fact local k state (entry_of state (Own line) step)) r';
        outcome = None;
        waited = false;
      };
      agrees = record {
        op = now.0;
        reserved_op =
            ap (λ n. unwrap_or (new_run greatest_op (n + 1) old.reserved_op) old.reserved_op) session_state.op
            ∙ ap (λ n. unwrap_or (new_run greatest_op (session.op + 1) n) n) session_state.reserved_op
            ∙ begun_reserves k (session.op + 1) first count after.floor r';
        reserved_floor = session_state.reserved_floor ∙ begun_keeps k (session.op + 1) first count after.floor r';
        sits = now.1;
        outcome = refl;
        row = session_state.row;
        column = session_state.column;
        waited = refl;
        stays = session_state.stays;
      };
      left = ap (λ (d : Doing). d.local) (does_is w t k op task line causes code messages local h agrees);
    }

begun_gives : (w : Tables) (t k op : ℕ) (task : Task) (line : Line) (causes : List Cause) (code : Code) (messages : List Message) (out : Output) (new : Tables) (local : Local) → IsBegun w t k op task line causes code messages → HasBegunWith w t k code messages out new → Agrees w t local →
    Gives t (asks op line (site_of w.plan w.here t) local) out
begun_gives w t k op task line causes code messages out new local h gives agrees =
    let old : SessionState = session_state_at w t k in
    let r : IsRequest w t k task line causes = h.request in
    let s = r.session h.asked in
    let session_state = session_state_of w t k local agrees s.0 in
    let first = first_is w t k task local agrees s in
    let session : Session = (local.residents k).session in
    let state : State = state_at w t k local in
    let step : Step = first_step w t k task local in
    let sends : messages ≡ map (message_of t) (first_messages w t k task local) =
    h.begins.1
    ∙ ap (λ o. map (message_of t) (round_messages w.plan.grid (session_state_aim w.plan.grid old) o)) first
    ∙ ap (λ up. map (message_of t) (round_messages w.plan.grid up (first_operation (state_at w t k local) k task))) (its_aim w t k local agrees s.0) in
    subst (λ (d : Doing). Gives t d out) (sym (does_is w t k op task line causes code messages local h agrees)) (record {
      answer = gives.answer;
      letters = gives.letters ∙ sends;
      transfer = gives.transfer;
      fact = gives.fact
          ∙ ap (λ n. option_map (FactBegan t k) (new_run greatest_op (n + 1) old.reserved_op)) session_state.op
          ∙ ap (λ n. option_map (FactBegan t k) (new_run greatest_op (session.op + 1) n)) session_state.reserved_op
          ∙ begun_gives_fact t k (session.op + 1) (length state.sent) (length step.new) ((changed (entry_of state (Own line) step) state).session k).floor (local.residents k).reserved;
    })

-- what comes of the request
start_acts : (w : Tables) (t k op : ℕ) (task : Task) (line : Line) (causes : List Cause) (began : Result (Code × List Message) BeginRefused) (out : Output) (new : Tables) → IsShaped w → t < length w.plan.rows → IsRequest w t k task line causes →
    admission_at w t k op true ≡ Goes → first_cause causes ≡ None →
    IfOk began (λ b. Begins w.plan.grid (record { tenant = t; session = k; op = (session_state_at w t k).op + 1 }) task (session_state_at w t k).floor (session_state_aim w.plan.grid (session_state_at w t k)) b.0 b.1) →
    Starts w t k began out new → Acts w t (asks op line) out new
start_acts w t k op task line causes (Ok (code, messages)) out new shaped within r goes asked begins starts =
    let s = r.session asked in
    let h : IsBegun w t k op task line causes code messages = record { request = r; goes = goes; asked = asked; quorum = quorum_there w t k shaped; begins = begins } in
    subst (Acts w t (asks op line) out) (sym starts.busy) (record {
      leads = session_state_leads w t k (busy_session_state (session_state_at w t k) code) (asks op line) (session_state_there w t k shaped within s.0)
          (λ local agrees. begun_settles w t k op task line causes code messages local h agrees);
      gives = λ local agrees. begun_gives w t k op task line causes code messages out new local h starts agrees;
    })
start_acts w t k op task line causes (Err refused) out new shaped within r goes asked begins starts = absurd starts

-- the same, of an operation that the call made with this grid, this number, this last number and these servers
pub requested : (w : Tables) (t k op : ℕ) (task : Task) (line : Line) (causes : List Cause) (began : Result (Code × List Message) BeginRefused) (grid : Grid) (who : Who) (floor : ℕ) (set : ServerSet) (out : Output) (new : Tables) → IsShaped w → t < length w.plan.rows →
    IsRequest w t k task line causes → admission_at w t k op true ≡ Goes → first_cause causes ≡ None →
    grid ≡ w.plan.grid → who ≡ record { tenant = t; session = k; op = (session_state_at w t k).op + 1 } → floor ≡ (session_state_at w t k).floor → servers set ≡ session_state_aim w.plan.grid (session_state_at w t k) →
    IfOk began (λ b. Begins grid who task floor (servers set) b.0 b.1) → Starts w t k began out new → Acts w t (asks op line) out new
requested w t k op task line causes began grid who floor set out new shaped within r goes asked grid_is who_is floor_is' up_is ok starts =
    let B : Grid → Who → ℕ → Servers → Type 0 = λ g x n up. IfOk began (λ b. Begins g x task n up b.0 b.1) in
    let next : Who = record { tenant = t; session = k; op = (session_state_at w t k).op + 1 } in
    start_acts w t k op task line causes began out new shaped within r goes asked
    (subst (B w.plan.grid next (session_state_at w t k).floor) up_is (subst (λ n. B w.plan.grid next n (servers set)) floor_is' (subst (λ x. B w.plan.grid x floor (servers set)) who_is (subst (λ g. B g who floor (servers set)) grid_is ok)))) starts

-- ---- a session gives its operation up

-- the model does not refuse it
none_idle : (w : Tables) (t k op : ℕ) (local : Local) → Agrees w t local → admission_at w t k op false ≡ Goes →
    first_cause (session_causes w.plan.grid (numbered (row_at w.plan t)) (state_at w t k local) (Abandon k)) ≡ None
none_idle w t k op local agrees goes =
    let at = goes_placed w t k op false goes in
    let session_state = session_state_of w t k local agrees at in
    let session : Session = (local.residents k).session in
    let busy : is_some session.current ≡ true = is_busy w.plan.grid t (session_state_at w t k).floor session.floor (session_state_at w t k).operation k session session.current session_state.sits ∙ going_there w t k op goes in
    rw (is_number (site_of w.plan w.here t) k (goes_inside w t k op false goes), some_not_none session.current busy) refl

pub abandon_acts : (w : Tables) (t k op : ℕ) (out : Output) → IsShaped w → t < length w.plan.rows → admission_at w t k op false ≡ Goes →
    IsTold (Gone k op) out → Acts w t (asks op (Abandon k)) out (with_session_state w t k (rested_session_state (session_state_at w t k)))
abandon_acts w t k op out shaped within goes told =
    let site : Site = site_of w.plan w.here t in
    let at = goes_placed w t k op false goes in
    let old : SessionState = session_state_at w t k in
    let does : (local : Local) → Agrees w t local → asks op (Abandon k) site local ≡ goes_on local k op false (state_at w t k local) (entry_of (state_at w t k local) (Own (Abandon k)) (quiet Abandoned)) =
    λ local agrees. admission_goes site local op (Abandon k) k (sym (admission_is w t k op false local agrees) ∙ goes)
    ∙ ap (λ o. asked_by local k op (state_at w t k local) (Abandon k) (unless o (quiet Abandoned))) (none_idle w t k op local agrees goes) in
    record {
      leads = session_state_leads w t k (rested_session_state old) (asks op (Abandon k)) (session_state_there w t k shaped within at) (λ local agrees.
          let state : State = state_at w t k local in
          let session : Session = (local.residents k).session in
          let session_state = session_state_of w t k local agrees at in
          let ended : (changed (entry_of state (Own (Abandon k)) (quiet Abandoned)) state).session k ≡ record { op = session.op; current = None; round = session.round; heard = session.heard; collected = session.collected; floor = session.floor } = rw (eq-eqb k k refl) refl in
          let P : Session → Type 0 = λ x. (old.op ≡ x.op) × Sits w.plan.grid t (last_in old) None x.floor (option_map (operation_with k x) x.current) in
          let now : P ((changed (entry_of state (Own (Abandon k)) (quiet Abandoned)) state).session k) = subst P (sym ended) (session_state.op, last_agrees w.plan.grid t k old (local.residents k) session_state) in
          record {
            resident = record (local.residents k) { session = (changed (entry_of state (Own (Abandon k)) (quiet Abandoned)) state).session k; outcome = None };
            agrees = record { op = now.0; reserved_op = session_state.reserved_op; reserved_floor = session_state.reserved_floor; sits = now.1; outcome = refl; row = session_state.row; column = session_state.column; waited = session_state.waited; stays = session_state.stays };
            left = ap (λ (d : Doing). d.local) (does local agrees);
          });
      gives = λ local agrees. subst (λ (d : Doing). Gives t d out) (sym (does local agrees)) (record { answer = told.answer_is; letters = told.letters; transfer = told.transfer; fact = told.fact });
    }

-- ---- a line that is no request

pub bad_acts : (w : Tables) (t op : ℕ) (line : Line) (out : Output) → asker line ≡ None → IsTold IsBad out → Acts w t (asks op line) out w
bad_acts w t op line out none told = told_acts w t (asks op line) IsBad out (λ local agrees. rw none refl) told

-- a line of none of these kinds is no request
pub no_asker : (line : Line) → ((k v f : ℕ) (bytes : List ℕ) → line ≡ Write k v f bytes → ⊥) → ((k v f : ℕ) → line ≡ Read k v f → ⊥) → ((k v : ℕ) → line ≡ ListFiles k v → ⊥) → ((k : ℕ) → line ≡ Abandon k → ⊥) → asker line ≡ None
no_asker Bad w r l a = refl
no_asker Quorum w r l a = refl
no_asker (NewVolume files blocks) w r l a = refl
no_asker Volumes w r l a = refl
no_asker (Write k v f bytes) w r l a = absurd (w k v f bytes refl)
no_asker (Read k v f) w r l a = absurd (r k v f refl)
no_asker (ListFiles k v) w r l a = absurd (l k v refl)
no_asker (Deliver number) w r l a = refl
no_asker (Lose number) w r l a = refl
no_asker (Retry k) w r l a = refl
no_asker (Abandon k) w r l a = absurd (a k refl)

-- ---- whose request it is

pub no_one : (b : Bool) (o : Option ℕ) → ◌≡◌ {A = Option (ℕ × Bool)} None (option_map (λ k. (k, b)) o) → o ≡ None
no_one b None is = refl
no_one b (Some k) is = absurd (cc)

pub some_one : (b : Bool) (o : Option ℕ) (k : ℕ) (c : Bool) → ◌≡◌ {A = Option (ℕ × Bool)} (Some (k, c)) (option_map (λ k. (k, b)) o) → (o ≡ Some k) × (b ≡ c)
some_one b None k c is = absurd (cc)
some_one b (Some j) k c is =
    let number : Option (ℕ × Bool) → ℕ = λ x. (unwrap_or x (k, c)).0 in
    let flag : Option (ℕ × Bool) → Bool = λ x. (unwrap_or x (k, c)).1 in
    (ap (λ x. Some (number x)) (sym is), ap flag (sym is))

-- it is let go
pub may_go : (w : Tables) (t k op : ℕ) (line : Line) (b : Bool) → asker line ≡ Some k → begins_line line ≡ b → admission_at w t k op b ≡ Goes → MayGo w t op line
may_go w t k op line b asks begins goes = rw asks (ap (admission_at w t k op) begins ∙ goes)
