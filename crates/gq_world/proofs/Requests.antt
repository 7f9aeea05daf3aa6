-- A request of a session: why it is refused, and how its operation begins.
use Rattle.std.proofs.Common.{◌≡◌, ◌≢◌, ◌∙◌, ℕ, ◌+◌, ◌-◌, ◌<◌, ◌≤◌, Bool, true, false, List, [], ◌∷◌, ◌++◌, length, map, refl, sym, ap, subst, Option, Some, None, arith, inl, inr, All}
use Rattle.std.specs.Prelude.{slice_set, slice_get, slice_index_or, option_map, not, nat_lt, nat_le, is_some, is_none, unwrap_or, ◌==◌, if◌then◌else◌}
use Rattle.std.specs.Option.{option_and_then}
use Rattle.std.proofs.Math.Path.{fun_ext}
use Rattle.std.proofs.lemmas.Bool.{cases_eq, cases_Bool, ne_eqb, eq-eqb, and_parts}
use Rattle.std.proofs.lemmas.Bool.Decides.{nat_tests}
use Rattle.std.proofs.lemmas.List.{get_or_default, get_or-set_same, get_or-set_other, length-map}
use Rattle.gq_grid.specs.Grid.{Grid, Servers}
use Rattle.gq_grid.specs.Sets.{servers, no_set}
use Rattle.gq_grid.specs.declared.ServerSet.{ServerSet}
use Rattle.gq_tag.specs.declared.Message.{Message}
use Rattle.gq_tag.specs.Tag.{OwnMessage, message_of}
use Rattle.gq_desk.specs.CheckedPlan.{row_at}
use Rattle.gq_desk.specs.declared.plans.TenantRow.{TenantRow}
use Rattle.gq_desk.specs.Plans.{is_in}
use Rattle.gq_desk.specs.Volumes.{Account, account_at, limit_in}
use Rattle.gq_post.specs.Channels.{channel_at, message_at}
use Rattle.gq_phase.specs.Quorums.{collect_quorum}
use Rattle.gq_phase.specs.declared.operation.Operation.{Operation as Code}
use Rattle.gq_phase.specs.Phase.{Task, Writing, Reading, Listing, Operation, begun, round_messages, round_quorum}
use Rattle.gq_phase.specs.Standing.{StandsFor, Begins}
use Rattle.gq_model.specs.declared.events.Refusal.{Refusal}
use Rattle.gq_model.specs.declared.events.Refusal.TheVariants.{Busy, NoVolume, NoFile, TooLong, NoQuorum}
use Rattle.gq_model.specs.declared.events.Line.{Line}
use Rattle.gq_model.specs.declared.events.Line.TheVariants.{Write, Read, List as ListFiles}
use Rattle.gq_model.specs.Told.{Began, Refused}
use Rattle.gq_model.specs.Trace.{Own, Elsewhere, Begins as BeginsDeed, State, Session, Known, changed, operation_with, session_by, task_of, files_of, account_of, counts_on}
use Rattle.gq_model.specs.Lone.{Step, Cause, first_cause, session_causes, no_session, busy, no_quorum, quiet, unless, begin_step, line_step, entry_of, first_operation}
use Rattle.gq_phase.specs.Laws.{SameQuorums}
use Rattle.gq_phase.proofs.ByQuorums.{round_messages_up}
use Rattle.gq_world.specs.declared.sessions.SessionState.{SessionState}
use Rattle.gq_world.specs.Tables.{Tables, Agrees, SessionStateAgrees, Sits, IsReady, IsShaped, session_states_at, session_state_in, no_session_state}
use Rattle.gq_world.specs.Asking.{volume_causes, file_causes, write_causes, busy_session_state, begun_tables}
use Rattle.gq_world.specs.Machine.{Acts, TellsLine, acted, state_after_turn}
use Rattle.gq_world.specs.Bounds.{IsOfSession}
use Rattle.gq_world.proofs.Counting.{none_in, more_counted, round_uncounted, begun_uncounted}
use Rattle.gq_world.proofs.Quiet.{offered_on}
use Rattle.gq_world.proofs.Channels.{sent_count, sent_messages, new_not_lost, channel_there, quorums_in}

-- ---- a session of the tables

is_busy : (grid : Grid) (t own last : ℕ) (code : Option Code) (k : ℕ) (s : Session) (current : Option Task) → Sits grid t own code last (option_map (operation_with k s) current) → is_some current ≡ is_some code
is_busy grid t own last None k s None sits = refl
is_busy grid t own last None k s (Some task) sits = absurd sits
is_busy grid t own last (Some code) k s None sits = absurd sits
is_busy grid t own last (Some code) k s (Some task) sits = refl

low_end : (k : ℕ) → nat_le 1 k ≡ true → 1 ≤ k
low_end k e = grind (arith, nat_tests)

high_end : (n k : ℕ) → nat_le k n ≡ true → k ≤ n
high_end n k e = grind (arith, nat_tests)

pub in_range : (n k : ℕ) → is_in 1 n k ≡ true → (1 ≤ k) × (k ≤ n)
in_range n k is = let parts = and_parts (nat_le 1 k) (nat_le k n) is in (low_end k parts.0, high_end n k parts.1)

-- the session state of a session that there is
pub session_state_of : (w : Tables) (t k : ℕ) (known : Known) → Agrees w t known → 1 ≤ k → k ≤ (row_at w.plan t).sessions → SessionStateAgrees w.plan.grid t k (session_state_in (session_states_at w.session_states t) (k - 1)) known.state
session_state_of w t k known agrees low high =
    let within : k - 1 < (row_at w.plan t).sessions = omega arith in
    let at : k - 1 + 1 ≡ k = omega arith in
    subst (λ j. SessionStateAgrees w.plan.grid t j (session_state_in (session_states_at w.session_states t) (k - 1)) known.state) at (agrees.session_states (k - 1) within)

-- what is so where no cause holds
pub first_none : (cause : Cause) (causes : List Cause) → first_cause (cause ∷ causes) ≡ None → (cause.0 ≡ false) × (first_cause causes ≡ None)
first_none cause causes is = by cause.0 refl
  where
    by : (b : Bool) → cause.0 ≡ b → (cause.0 ≡ false) × (first_cause causes ≡ None)
    by true e = let h : ◌≡◌ {A = Option Refusal} (Some cause.1) None = rw e at is in absurd (cc)
    by false e = (e, rw e at is)

pub none_is : (o : Option Code) → is_some o ≡ false → o ≡ None
none_is None is = refl
none_is (Some code) is = absurd (cc)

pub not_false : (b : Bool) → not b ≡ false → b ≡ true
not_false true e = refl
not_false false e = sym e

-- ---- the causes in the tables are those of the model

-- the first cause of these, or the last one
abbrev pub else_cause : Option Refusal → Cause → Option Refusal
else_cause (Some word) cause = Some word
else_cause None cause = first_cause (cause ∷ [])

chain : (causes : List Cause) (last : Cause) → first_cause (causes ++ last ∷ []) ≡ else_cause (first_cause causes) last
chain [] last = refl
chain (cause ∷ causes) last = by cause.0 (chain causes last)
  where
    by : (b : Bool) → first_cause (causes ++ last ∷ []) ≡ else_cause (first_cause causes) last → (if b then Some cause.1 else first_cause (causes ++ last ∷ [])) ≡ else_cause (if b then Some cause.1 else first_cause causes) last
    by true rest = refl
    by false rest = rest

-- the session's part of the causes
abbrev busy_at : Tables → ℕ → ℕ → Cause
busy_at w t k = (is_some (session_state_in (session_states_at w.session_states t) (k - 1)).operation, Busy)

-- the rest is asked of the tenant's account, which is that of the model
causes_are : (w : Tables) (t k : ℕ) (rest : Account → List Cause) (known : Known) → Agrees w t known →
    first_cause (no_session (row_at w.plan t) k ∷ busy known.state k ∷ rest (account_of (row_at w.plan t) known.state) ++ no_quorum w.plan.grid known.state 1 ∷ [])
    ≡ else_cause (first_cause (no_session (row_at w.plan t) k ∷ busy_at w t k ∷ rest (account_at w.desk t))) (no_quorum w.plan.grid known.state 1)
causes_are w t k rest known agrees = elim (cases_Bool (is_in 1 (row_at w.plan t).sessions k)) [
  | inr outside ↦ (rw outside refl)
  | inl inside ↦ (
      let row : TenantRow = row_at w.plan t in
      let range = in_range row.sessions k inside in
      let session_state = session_state_of w t k known agrees range.0 range.1 in
      let old : SessionState = session_state_in (session_states_at w.session_states t) (k - 1) in
      let same : is_some (known.state.session k).current ≡ is_some old.operation =
      is_busy w.plan.grid t old.floor (known.state.session k).floor old.operation k (known.state.session k) (known.state.session k).current session_state.sits in
      let last : Cause = no_quorum w.plan.grid known.state 1 in
      let C : Bool → Account → Option Refusal = λ b a. first_cause (no_session row k ∷ (b, Busy) ∷ rest a ++ last ∷ []) in
      ap (λ b. C b (account_of row known.state)) same
      ∙ ap (C (is_some old.operation)) (sym agrees.account)
      ∙ chain (no_session row k ∷ busy_at w t k ∷ rest (account_at w.desk t)) last)
]

-- where no cause holds there is such a session, which has no operation
there_at_rest : (w : Tables) (t k : ℕ) (rest : List Cause) → first_cause (no_session (row_at w.plan t) k ∷ busy_at w t k ∷ rest) ≡ None →
    (1 ≤ k) × (k ≤ (row_at w.plan t).sessions) × ((session_state_in (session_states_at w.session_states t) (k - 1)).operation ≡ None)
there_at_rest w t k rest is =
    let a = first_none (no_session (row_at w.plan t) k) (busy_at w t k ∷ rest) is in
    let b = first_none (busy_at w t k) rest a.1 in
    let range = in_range (row_at w.plan t).sessions k (not_false (is_in 1 (row_at w.plan t).sessions k) a.0) in
    (range.0, range.1, none_is (session_state_in (session_states_at w.session_states t) (k - 1)).operation b.0)

-- ---- what is known after it

abbrev pub write_task : ℕ → ℕ → List ℕ → Task
write_task v f bytes = Writing (record { volume = v; place = f }) bytes

abbrev pub read_task : ℕ → ℕ → Task
read_task v f = Reading (record { volume = v; place = f })

abbrev pub list_task : Tables → ℕ → ℕ → Task
list_task w t v = Listing v (files_of (account_at w.desk t).volumes v)

-- the session that has begun the task
abbrev pub begun_session : Session → Task → Session
begun_session s task = record { op = s.op + 1; current = Some task; round = 1; heard = []; collected = []; floor = s.floor }

-- session k has begun the task, and these messages are sent
abbrev pub begun_state : State → ℕ → Task → List OwnMessage → State
begun_state state k task new = record state { sent = state.sent ++ new; offered = offered_on state; session = λ j. if k == j then begun_session (state.session j) task else state.session j }

-- the messages of its first round
abbrev pub first_messages : Grid → State → ℕ → Task → List OwnMessage
first_messages grid state k task = round_messages grid state.up (first_operation state k task)

pub own_begins : (state : State) (k : ℕ) (task : Task) (new : List OwnMessage) → (begun_state state k task new).session k ≡ begun_session (state.session k) task
own_begins state k task new = rw (eq-eqb k k refl) refl

pub other_stays : (state : State) (k j : ℕ) (task : Task) (new : List OwnMessage) → k ≢ j → (begun_state state k task new).session j ≡ state.session j
other_stays state k j task new other = rw (ne_eqb k j other) refl

-- the line that asks for the task begins it
sessions_begin : (state : State) (k : ℕ) (line : Line) (task : Task) → task_of state.volumes line ≡ Some task →
    ◌≡◌ {A = ℕ → Session} (λ j. session_by state.volumes j (if k == j then BeginsDeed line else Elsewhere) (state.session j)) (λ j. if k == j then begun_session (state.session j) task else state.session j)
sessions_begin state k line task asks = fun_ext (λ j. by j (k == j))
  where
    by : (j : ℕ) (b : Bool) → session_by state.volumes j (if b then BeginsDeed line else Elsewhere) (state.session j) ≡ (if b then begun_session (state.session j) task else state.session j)
    by j true = ap (λ current. record { op = (state.session j).op + 1; current = current; round = 1; heard = []; collected = []; floor = (state.session j).floor }) asks
    by j false = refl

-- so many sessions, and so many messages
abbrev with_sessions : State → List OwnMessage → (ℕ → Session) → State
with_sessions state new session = record state { sent = state.sent ++ new; offered = offered_on state; session = session }

pub writes : (state : State) (k v f : ℕ) (bytes : List ℕ) (s : Step) → changed (entry_of state (Own (Write k v f bytes)) s) state ≡ begun_state state k (write_task v f bytes) s.new
writes state k v f bytes s = ap (with_sessions state s.new) (sessions_begin state k (Write k v f bytes) (write_task v f bytes) refl)

pub reads : (state : State) (k v f : ℕ) (s : Step) → changed (entry_of state (Own (Read k v f)) s) state ≡ begun_state state k (read_task v f) s.new
reads state k v f s = ap (with_sessions state s.new) (sessions_begin state k (Read k v f) (read_task v f) refl)

pub lists : (state : State) (k v files : ℕ) (s : Step) → files_of state.volumes v ≡ files → changed (entry_of state (Own (ListFiles k v)) s) state ≡ begun_state state k (Listing v files) s.new
lists state k v files s is = ap (with_sessions state s.new) (sessions_begin state k (ListFiles k v) (Listing v files) (ap (λ n. Some (Listing v n)) is))

-- ---- requests

-- the line asks session k to do the task, unless one of these causes holds in the tables or there is no quorum
pub record IsRequest (w : Tables) (t k : ℕ) (task : Task) (line : Line) (causes : List Cause) : Type 0 where
  pub session : first_cause causes ≡ None → (1 ≤ k) × (k ≤ (row_at w.plan t).sessions) × ((session_state_in (session_states_at w.session_states t) (k - 1)).operation ≡ None)
  pub same : (known : Known) → Agrees w t known → first_cause (session_causes w.plan.grid (row_at w.plan t) known.state line) ≡ else_cause (first_cause causes) (no_quorum w.plan.grid known.state 1)
  pub asks : (known : Known) → Agrees w t known → line_step w.plan.grid (row_at w.plan t) known.state line ≡ unless (first_cause (session_causes w.plan.grid (row_at w.plan t) known.state line)) (begin_step w.plan.grid known.state k (Some task))
  pub begins : (known : Known) → Agrees w t known → (s : Step) → changed (entry_of known.state (Own line) s) known.state ≡ begun_state known.state k task s.new

abbrev volume_rest : ℕ → Account → List Cause
volume_rest v a = (not (nat_lt v (length a.volumes)), NoVolume) ∷ []

abbrev file_rest : ℕ → ℕ → Account → List Cause
file_rest v f a = volume_rest v a ++ (is_none (option_and_then (limit_in f) (slice_get a.volumes v)), NoFile) ∷ []

abbrev write_rest : ℕ → ℕ → List ℕ → Account → List Cause
write_rest v f bytes a = file_rest v f a ++ (nat_lt (unwrap_or (option_and_then (limit_in f) (slice_get a.volumes v)) 0) (length bytes), TooLong) ∷ []

pub is_write : (w : Tables) (t k v f : ℕ) (bytes : List ℕ) → IsRequest w t k (write_task v f bytes) (Write k v f bytes) (write_causes w t k v f bytes)
is_write w t k v f bytes = record {
  session = there_at_rest w t k (write_rest v f bytes (account_at w.desk t));
  same = causes_are w t k (write_rest v f bytes);
  asks = λ known agrees. refl;
  begins = λ known agrees s. writes known.state k v f bytes s;
}

pub is_read : (w : Tables) (t k v f : ℕ) → IsRequest w t k (read_task v f) (Read k v f) (file_causes w t k v f)
is_read w t k v f = record {
  session = there_at_rest w t k (file_rest v f (account_at w.desk t));
  same = causes_are w t k (file_rest v f);
  asks = λ known agrees. refl;
  begins = λ known agrees s. reads known.state k v f s;
}

pub is_list : (w : Tables) (t k v : ℕ) → IsRequest w t k (list_task w t v) (ListFiles k v) (volume_causes w t k v)
is_list w t k v = record {
  session = there_at_rest w t k (volume_rest v (account_at w.desk t));
  same = causes_are w t k (volume_rest v);
  asks = λ known agrees. ap (λ n. unless (first_cause (session_causes w.plan.grid (row_at w.plan t) known.state (ListFiles k v))) (begin_step w.plan.grid known.state k (Some (Listing v n)))) (files_are w t v known agrees);
  begins = λ known agrees s. lists known.state k v (files_of (account_at w.desk t).volumes v) s (files_are w t v known agrees);
}
  where
    files_are : (w : Tables) (t v : ℕ) (known : Known) → Agrees w t known → files_of known.state.volumes v ≡ files_of (account_at w.desk t).volumes v
    files_are w t v known agrees = ap (λ (a : Account). files_of a.volumes v) (sym agrees.account)

-- ---- it is refused

-- whatever agrees with the tables refuses the line so
abbrev pub Refuses : Tables → ℕ → Line → Refusal → Type 0
Refuses w t line word = (known : Known) → Agrees w t known → line_step w.plan.grid (row_at w.plan t) known.state line ≡ quiet (Refused word)

pub refused_tells : (w : Tables) (t : ℕ) (line : Line) (word : Refusal) → Refuses w t line word → TellsLine w t line (Refused word)
refused_tells w t line word refuses known agrees = sym (ap (λ (s : Step). s.told) (refuses known agrees))

pub refused_acts : (w : Tables) (t : ℕ) (line : Line) (word : Refusal) → Refuses w t line word → Acts w t line w
refused_acts w t line word refuses = record {
  plan = refl;
  own = λ known most bounded agrees. subst (Agrees w t) (sym (ap (λ s. record known { state = state_after_turn known.state (Own line) s }) (refuses known agrees))) agrees;
  others = λ u other known agrees. agrees;
  servers = refl;
  gone = refl;
}

pub early : (w : Tables) (t k : ℕ) (task : Task) (line : Line) (causes : List Cause) (word : Refusal) → IsRequest w t k task line causes → first_cause causes ≡ Some word → Refuses w t line word
early w t k task line causes word r is known agrees =
    r.asks known agrees
    ∙ ap (λ o. unless o (begin_step w.plan.grid known.state k (Some task))) (r.same known agrees ∙ ap (λ o. else_cause o (no_quorum w.plan.grid known.state 1)) is)

quorum_is : (w : Tables) (t : ℕ) (known : Known) → Agrees w t known → round_quorum w.plan.grid known.state.up 1 ≡ collect_quorum w.plan.grid (servers w.up)
quorum_is w t known agrees = sym (quorums_in w.plan.grid w.up known.state.up agrees.up).0

pub without_quorum : (w : Tables) (t k : ℕ) (task : Task) (line : Line) (causes : List Cause) → IsRequest w t k task line causes → first_cause causes ≡ None → collect_quorum w.plan.grid (servers w.up) ≡ None → Refuses w t line NoQuorum
without_quorum w t k task line causes r is none known agrees =
    let words = r.same known agrees ∙ ap (λ o. else_cause o (no_quorum w.plan.grid known.state 1)) is ∙ ap (λ q. first_cause ((is_none q, NoQuorum) ∷ [])) (quorum_is w t known agrees ∙ none) in
    r.asks known agrees ∙ ap (λ o. unless o (begin_step w.plan.grid known.state k (Some task))) words

-- ---- it begins

-- the session state of the session, before
abbrev pub session_state_before : Tables → ℕ → ℕ → SessionState
session_state_before w t k = session_state_in (session_states_at w.session_states t) (k - 1)

-- the operation that begins there
abbrev pub first_at : Tables → ℕ → ℕ → Task → Operation
first_at w t k task = begun k ((session_state_before w t k).op + 1) task (session_state_before w t k).floor

-- what the session's operation and its first messages are
pub record IsBegun (w : Tables) (t k : ℕ) (task : Task) (causes : List Cause) (code : Code) (messages : List Message) : Type 0 where
  pub channels : t < length w.channels
  pub tenants : t < length w.session_states
  pub places : k - 1 < length (session_states_at w.session_states t)
  pub asked : first_cause causes ≡ None
  pub quorum : collect_quorum w.plan.grid (servers w.up) ≢ None
  pub stands : StandsFor w.plan.grid t code (first_at w t k task)
  pub sends : messages ≡ map (message_of t) (round_messages w.plan.grid (servers w.up) (first_at w t k task))

is_there : (q : Option Servers) → q ≢ None → is_none q ≡ false
is_there None h = absurd (h refl)
is_there (Some set) h = refl

begins_so : (w : Tables) (t k : ℕ) (task : Task) (line : Line) (causes : List Cause) (known : Known) → IsRequest w t k task line causes → Agrees w t known → first_cause causes ≡ None → collect_quorum w.plan.grid (servers w.up) ≢ None →
    line_step w.plan.grid (row_at w.plan t) known.state line ≡ begin_step w.plan.grid known.state k (Some task)
begins_so w t k task line causes known r agrees asked there =
    let q : is_none (round_quorum w.plan.grid known.state.up 1) ≡ false = ap is_none (quorum_is w t known agrees) ∙ is_there (collect_quorum w.plan.grid (servers w.up)) there in
    let none : first_cause (session_causes w.plan.grid (row_at w.plan t) known.state line) ≡ None =
    r.same known agrees ∙ ap (λ o. else_cause o (no_quorum w.plan.grid known.state 1)) asked ∙ ap (λ b. first_cause ((b, NoQuorum) ∷ [])) q in
    r.asks known agrees ∙ ap (λ o. unless o (begin_step w.plan.grid known.state k (Some task))) none

begun_known : (w : Tables) (t k : ℕ) (task : Task) (line : Line) (causes : List Cause) (known : Known) → IsRequest w t k task line causes → Agrees w t known → first_cause causes ≡ None → collect_quorum w.plan.grid (servers w.up) ≢ None →
    acted w.plan.grid (row_at w.plan t) known line ≡ record known { state = begun_state known.state k task (first_messages w.plan.grid known.state k task) }
begun_known w t k task line causes known r agrees asked there =
    ap (λ s. record known { state = state_after_turn known.state (Own line) s }) (begins_so w t k task line causes known r agrees asked there)
    ∙ ap (λ state. record known { state = state }) (r.begins known agrees (begin_step w.plan.grid known.state k (Some task)))

-- the operation that it begins in the tables is that of the model
floor_is : (grid : Grid) (t own last : ℕ) (code : Option Code) (k : ℕ) (s : Session) (current : Option Task) → code ≡ None → Sits grid t own code last (option_map (operation_with k s) current) → own ≡ last
floor_is grid t own last None k s None is sits = sits
floor_is grid t own last None k s (Some task) is sits = absurd sits
floor_is grid t own last (Some code) k s current is sits = absurd (cc)

first_is : (w : Tables) (t k : ℕ) (task : Task) (known : Known) → Agrees w t known → (1 ≤ k) × (k ≤ (row_at w.plan t).sessions) × ((session_state_before w t k).operation ≡ None) → first_at w t k task ≡ first_operation known.state k task
first_is w t k task known agrees s =
    let old : SessionState = session_state_before w t k in
    let session_state = session_state_of w t k known agrees s.0 s.1 in
    let floor = floor_is w.plan.grid t old.floor (known.state.session k).floor old.operation k (known.state.session k) (known.state.session k).current s.2 session_state.sits in
    ap (λ op. begun k (op + 1) task old.floor) session_state.op ∙ ap (begun k ((known.state.session k).op + 1) task) floor

sends_as : (w : Tables) (t k : ℕ) (task : Task) (line : Line) (causes : List Cause) (code : Code) (messages : List Message) (known : Known) → IsRequest w t k task line causes → IsBegun w t k task causes code messages → Agrees w t known →
    messages ≡ map (message_of t) (first_messages w.plan.grid known.state k task)
sends_as w t k task line causes code messages known r h agrees =
    let up : SameQuorums w.plan.grid (servers w.up) known.state.up = quorums_in w.plan.grid w.up known.state.up agrees.up in
    h.sends
    ∙ ap (λ o. map (message_of t) (round_messages w.plan.grid (servers w.up) o)) (first_is w t k task known agrees (r.session h.asked))
    ∙ ap (map (message_of t)) (round_messages_up w.plan.grid (servers w.up) known.state.up (first_operation known.state k task) up)

pub begun_tells : (w : Tables) (t k : ℕ) (task : Task) (line : Line) (causes : List Cause) (code : Code) (messages : List Message) → IsRequest w t k task line causes → IsBegun w t k task causes code messages →
    TellsLine w t line (Began ((session_state_before w t k).op + 1) (length (channel_at w.channels t)) (length messages))
begun_tells w t k task line causes code messages r h known agrees =
    let s = r.session h.asked in
    let session_state = session_state_of w t k known agrees s.0 s.1 in
    let new : List OwnMessage = first_messages w.plan.grid known.state k task in
    let count : length messages ≡ length new = ap length (sends_as w t k task line causes code messages known r h agrees) ∙ length-map new (message_of t) in
    ap (λ op. Began (op + 1) (length (channel_at w.channels t)) (length messages)) session_state.op
    ∙ ap (λ first. Began ((known.state.session k).op + 1) first (length messages)) agrees.sent
    ∙ ap (Began ((known.state.session k).op + 1) (length known.state.sent)) count
    ∙ sym (ap (λ (step : Step). step.told) (begins_so w t k task line causes known r agrees h.asked h.quorum))

begun_own : (w : Tables) (t k : ℕ) (task : Task) (line : Line) (causes : List Cause) (code : Code) (messages : List Message) (known : Known) → All (λ m. IsOfSession (known.state.session m.session) m) known.state.sent → IsRequest w t k task line causes → IsBegun w t k task causes code messages → Agrees w t known →
    Agrees (begun_tables w t (k - 1) code messages) t (record known { state = begun_state known.state k task (first_messages w.plan.grid known.state k task) })
begun_own w t k task line causes code messages known owners r h agrees =
    let state : State = known.state in
    let new : List OwnMessage = first_messages w.plan.grid state k task in
    let after : State = begun_state state k task new in
    let s = r.session h.asked in
    let session_state = session_state_of w t k known agrees s.0 s.1 in
    let old : SessionState = session_state_before w t k in
    let session_states : List SessionState = slice_set (session_states_at w.session_states t) (k - 1) (busy_session_state old code) in
    let here = get_or-set_same w.session_states t session_states [] h.tenants in
    let channels_is = ap (λ ms. Rattle.gq_world.specs.Saying.with_sent w.channels t ms) (sends_as w t k task line causes code messages known r h agrees) in
    record {
      lines = agrees.lines;
      up = agrees.up;
      gone = agrees.gone;
      account = agrees.account;
      sent = ap (λ channels. length (channel_at channels t)) channels_is ∙ sent_count w.channels t state new h.channels agrees.sent;
      lost = new_not_lost state new agrees.lost;
      messages = λ m. ap (λ channels. message_at (channel_at channels t) m) channels_is ∙ sent_messages w.channels t state new h.channels agrees.sent agrees.messages agrees.lost m;
      accounts = agrees.accounts;
      copies = agrees.copies;
      lacking = agrees.lacking;
      down = agrees.down;
      session_states = λ place within.
          let Q : List SessionState → Type 0 = λ all. SessionStateAgrees w.plan.grid t (place + 1) (session_state_in all place) after in
          let low = s.0 in
          subst Q (sym here) (elim (cases_eq place (k - 1)) [
            | inl same ↦ (
                let at : k ≡ place + 1 = omega arith in
                let P : Session → Type 0 = λ x. (old.op + 1 ≡ x.op) × Sits w.plan.grid t old.floor (Some code) x.floor (option_map (operation_with k x) x.current) in
                let now : P (after.session k) = subst P (sym (own_begins state k task new))
                (ap (λ op. op + 1) session_state.op, subst (StandsFor w.plan.grid t code) (first_is w t k task known agrees s) h.stands) in
                let begins : Session = begun_session (state.session k) task in
                let counts : (server : ℕ) → servers no_set server ≡ counts_on after.sent k (after.session k) server = λ server.
                none_in server
                ∙ sym (begun_uncounted state k begins server owners refl)
                ∙ sym (more_counted state.sent new k begins server (round_uncounted w.plan.grid state.up (first_operation state k task) k begins server))
                ∙ ap (λ x. counts_on after.sent k x server) (sym (own_begins state k task new)) in
                let agreed : SessionStateAgrees w.plan.grid t k (busy_session_state old code) after = record { op = now.0; answered = λ busy server. counts server; sits = now.1 } in
                let put : session_state_in session_states (k - 1) ≡ busy_session_state old code = get_or-set_same (session_states_at w.session_states t) (k - 1) (busy_session_state old code) _ h.places in
                subst (λ j. SessionStateAgrees w.plan.grid t j (session_state_in session_states place) after) at
                (subst (λ q. SessionStateAgrees w.plan.grid t k (session_state_in session_states q) after) (sym same)
                (subst (λ (x : SessionState). SessionStateAgrees w.plan.grid t k x after) (sym put) agreed)))
            | inr other ↦ (
                let apart : k ≢ place + 1 = λ x. other (omega arith) in
                let kept : session_state_in session_states place ≡ session_state_in (session_states_at w.session_states t) place = get_or-set_other (session_states_at w.session_states t) (k - 1) place (busy_session_state old code) _ other in
                let before = agrees.session_states place within in
                let there : SessionState = session_state_in (session_states_at w.session_states t) place in
                let P : Session → Type 0 = λ x. (there.op ≡ x.op) × Sits w.plan.grid t there.floor there.operation x.floor (option_map (operation_with (place + 1) x) x.current) in
                let now : P (after.session (place + 1)) = subst P (sym (other_stays state k (place + 1) task new apart)) (before.op, before.sits) in
                let stays = other_stays state k (place + 1) task new apart in
                let agreed : SessionStateAgrees w.plan.grid t (place + 1) there after = record {
                  op = now.0;
                  answered = λ busy server.
                      before.answered busy server
                      ∙ sym (more_counted state.sent new (place + 1) (state.session (place + 1)) server (round_uncounted w.plan.grid state.up (first_operation state k task) (place + 1) (state.session (place + 1)) server))
                      ∙ ap (λ x. counts_on after.sent (place + 1) x server) (sym stays);
                  sits = now.1;
                } in
                subst (λ (x : SessionState). SessionStateAgrees w.plan.grid t (place + 1) x after) (sym kept) agreed)
          ]);
    }

begun_other : (w : Tables) (t u place : ℕ) (code : Code) (messages : List Message) (known : Known) → u ≢ t → Agrees w u known → Agrees (begun_tables w t place code messages) u known
begun_other w t u place code messages known other agrees =
    let channel = channel_there w.channels t u messages other in
    let there : session_states_at (begun_tables w t place code messages).session_states u ≡ session_states_at w.session_states u = get_or-set_other w.session_states t u _ [] other in
    record {
      lines = agrees.lines;
      up = agrees.up;
      gone = agrees.gone;
      account = agrees.account;
      sent = ap length channel ∙ agrees.sent;
      lost = agrees.lost;
      messages = λ m. ap (λ l. message_at l m) channel ∙ agrees.messages m;
      accounts = agrees.accounts;
      copies = agrees.copies;
      lacking = agrees.lacking;
      down = agrees.down;
      session_states = λ p within. subst (λ all. SessionStateAgrees w.plan.grid u (p + 1) (session_state_in all p) known.state) (sym there) (agrees.session_states p within);
    }

pub begun_acts : (w : Tables) (t k : ℕ) (task : Task) (line : Line) (causes : List Cause) (code : Code) (messages : List Message) → IsRequest w t k task line causes → IsBegun w t k task causes code messages → Acts w t line (begun_tables w t (k - 1) code messages)
begun_acts w t k task line causes code messages r h = record {
  plan = refl;
  own = λ known most bounded agrees. subst (Agrees (begun_tables w t (k - 1) code messages) t) (sym (begun_known w t k task line causes known r agrees h.asked h.quorum)) (begun_own w t k task line causes code messages known bounded.owners r h agrees);
  others = λ u other known agrees. begun_other w t u (k - 1) code messages known other agrees;
  servers = refl;
  gone = refl;
}

-- ---- the conditions

-- the session has a session state in tables that are shaped
pub place_there : (w : Tables) (t k : ℕ) → IsShaped w → t < length w.plan.rows → 1 ≤ k → k ≤ (row_at w.plan t).sessions → k - 1 < length (session_states_at w.session_states t)
place_there w t k shaped within low high = let count = shaped.session_states t within in omega arith

-- the number of the session's next operation is a u32
pub number_left : (w : Tables) (t k : ℕ) (task : Task) (line : Line) (causes : List Cause) → IsRequest w t k task line causes → IsReady w t → first_cause causes ≡ None → (session_state_before w t k).op < 4294967295
number_left w t k task line causes r ready asked =
    let s = r.session asked in
    let session_state = (session_state_of w t k ready.known ready.agrees s.0 s.1).op in
    let low = (ready.bounded.sessions k).op in
    let taken = ready.taken in
    let few = ready.few in
    omega arith

-- an operation that began for the session begins in the tables
pub is_begun : (w : Tables) (t k : ℕ) (task : Task) (line : Line) (causes : List Cause) (code : Code) (messages : List Message) → IsRequest w t k task line causes → IsShaped w → t < length w.plan.rows → first_cause causes ≡ None → collect_quorum w.plan.grid (servers w.up) ≢ None →
    Begins w.plan.grid (record { tenant = t; session = k; op = (session_state_before w t k).op + 1 }) task (session_state_before w t k).floor (servers w.up) code messages → IsBegun w t k task causes code messages
is_begun w t k task line causes code messages r shaped within asked quorum begins =
    let s = r.session asked in
    record {
      channels = rw shaped.channels within;
      tenants = rw shaped.tenants within;
      places = place_there w t k shaped within s.0 s.1;
      asked = asked;
      quorum = quorum;
      stands = begins.0;
      sends = begins.1;
    }

-- ---- what the code reads of the tables

-- the session's state, among the tenant's, among all
pub session_state_read : (w : Tables) (t k : ℕ) (all : List (List SessionState)) (session_states items : List SessionState) (session_state none : SessionState) (empty : List SessionState) → all ≡ w.session_states → t < length w.session_states → k - 1 < length (session_states_at w.session_states t) →
    session_states ≡ slice_index_or all t empty → items ≡ session_states → session_state ≡ slice_index_or items (k - 1) none → session_state ≡ session_state_before w t k
session_state_read w t k all session_states items session_state none empty all_is tenants places session_states_is items_is session_state_is =
    let there : session_states ≡ session_states_at w.session_states t = session_states_is ∙ ap (λ x. slice_index_or x t empty) all_is ∙ get_or_default w.session_states t empty [] tenants in
    let here : items ≡ session_states_at w.session_states t = items_is ∙ there in
    session_state_is ∙ ap (λ x. slice_index_or x (k - 1) none) here ∙ get_or_default (session_states_at w.session_states t) (k - 1) none no_session_state places

-- what began with this grid, these servers and this session state, which are those of the tables
pub began_with : (w : Tables) (t k : ℕ) (task : Task) (grid : Grid) (set : ServerSet) (session_state : SessionState) (code : Code) (messages : List Message) → grid ≡ w.plan.grid → set ≡ w.up → session_state ≡ session_state_before w t k →
    Begins grid (record { tenant = t; session = k; op = session_state.op + 1 }) task session_state.floor (servers set) code messages →
    Begins w.plan.grid (record { tenant = t; session = k; op = (session_state_before w t k).op + 1 }) task (session_state_before w t k).floor (servers w.up) code messages
began_with w t k task grid set session_state code messages grid_is set_is session_state_is begins =
    let B : Grid → ServerSet → SessionState → Type 0 = λ g x y. Begins g (record { tenant = t; session = k; op = y.op + 1 }) task y.floor (servers x) code messages in
    subst (λ g. B g w.up (session_state_before w t k)) grid_is (subst (λ x. B grid x (session_state_before w t k)) set_is (subst (λ y. B grid set y) session_state_is begins))

-- the quorum of this grid and these servers
pub quorum_with : (w : Tables) (grid : Grid) (set : ServerSet) → grid ≡ w.plan.grid → set ≡ w.up → collect_quorum grid (servers set) ≡ collect_quorum w.plan.grid (servers w.up)
quorum_with w grid set grid_is set_is = ap (λ g. collect_quorum g (servers set)) grid_is ∙ ap (λ x. collect_quorum w.plan.grid (servers x)) set_is
