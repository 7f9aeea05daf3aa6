-- A session sends its round's message once more, or gives its operation up.
use Rattle.std.proofs.Common.{◌≡◌, ◌≢◌, ◌∙◌, ℕ, ◌+◌, ◌-◌, ◌*◌, ◌<◌, ◌≤◌, Bool, true, false, ◌&&◌, List, [], ◌∷◌, ◌++◌, length, map, refl, sym, ap, subst, Option, Some, None, arith, inl, inr, append-nil, All}
use Rattle.std.specs.Prelude.{slice_set, option_map, not, is_none, if◌then◌else◌}
use Rattle.std.proofs.lemmas.Bool.{cases_eq, cases_Bool, ne_eqb, eq-eqb}
use Rattle.std.proofs.lemmas.List.{get_or-set_same, get_or-set_other, length-map}
use Rattle.gq_grid.specs.Grid.{Grid, Servers}
use Rattle.gq_grid.specs.Sets.{servers}
use Rattle.gq_tag.specs.declared.Message.{Message}
use Rattle.gq_tag.specs.Tag.{OwnMessage, message_of}
use Rattle.gq_desk.specs.CheckedPlan.{row_at}
use Rattle.gq_desk.specs.Plans.{is_in}
use Rattle.gq_post.specs.Channels.{channel_at, message_at}
use Rattle.gq_phase.specs.declared.operation.Operation.{Operation as Code}
use Rattle.gq_phase.specs.declared.ResendRefused.TheVariants.{NoQuorum as NoneUp}
use Rattle.gq_phase.specs.Phase.{Task, Operation, is_collect, round_quorum, resent, heard_servers}
use Rattle.gq_phase.specs.Standing.{StandsFor, ResendsAs, RefusesAs, last_number}
use Rattle.gq_phase.specs.Laws.{SameQuorums}
use Rattle.gq_model.specs.declared.events.Refusal.{Refusal}
use Rattle.gq_model.specs.declared.events.Refusal.TheVariants.{NoSession, Idle, NoQuorum}
use Rattle.gq_model.specs.declared.events.Line.TheVariants.{Retry, Abandon}
use Rattle.gq_model.specs.Told.{Resent, Abandoned, Refused}
use Rattle.gq_model.specs.Trace.{Own, State, Session, Known, operation, operation_with, session_by, deed, counts_on}
use Rattle.gq_model.specs.Lone.{Step, Cause, first_cause, session_causes, idle, no_quorum, quiet, line_step, retry_step}
use Rattle.gq_world.specs.declared.sessions.SessionState.{SessionState}
use Rattle.gq_world.specs.Tables.{Tables, Agrees, SessionStateAgrees, Sits, IsReady, session_states_at, session_state_in}
use Rattle.gq_world.specs.Asking.{idle_causes, rested_session_state, rested_tables}
use Rattle.gq_world.specs.Saying.{with_sent}
use Rattle.gq_world.specs.SessionStates.{IsAtWork, SessionStateResends, SessionStateRefuses}
use Rattle.gq_world.specs.Machine.{Acts, TellsLine, acted, state_after_turn}
use Rattle.gq_world.proofs.Counting.{counted, more_counted, messages_uncounted}
use Rattle.gq_world.proofs.Hearing.{length-rising}
use Rattle.gq_world.proofs.Quiet.{offered_on}
use Rattle.gq_world.proofs.Channels.{sent_count, sent_messages, new_not_lost, channel_there, quorums_in}
use Rattle.gq_world.proofs.Requests.{in_range, not_false, first_none, session_state_of}

-- ---- the causes in the tables are those of the model

is_idle : (grid : Grid) (t own last : ℕ) (code : Option Code) (k : ℕ) (s : Session) (current : Option Task) → Sits grid t own code last (option_map (operation_with k s) current) → is_none current ≡ is_none code
is_idle grid t own last None k s None sits = refl
is_idle grid t own last None k s (Some task) sits = absurd sits
is_idle grid t own last (Some code) k s None sits = absurd sits
is_idle grid t own last (Some code) k s (Some task) sits = refl

-- the session, as the tables have it
abbrev session_state_at : Tables → ℕ → ℕ → SessionState
session_state_at w t k = session_state_in (session_states_at w.session_states t) (k - 1)

-- the causes with others behind them
idle_with : (w : Tables) (t k : ℕ) (known : Known) (more : List Cause) → Agrees w t known →
    first_cause ((not (is_in 1 (row_at w.plan t).sessions k), NoSession) ∷ idle known.state k ∷ more)
    ≡ first_cause ((not (is_in 1 (row_at w.plan t).sessions k), NoSession) ∷ (is_none (session_state_at w t k).operation, Idle) ∷ more)
idle_with w t k known more agrees = elim (cases_Bool (is_in 1 (row_at w.plan t).sessions k)) [
  | inr outside ↦ (rw outside refl)
  | inl inside ↦ (
      let range = in_range (row_at w.plan t).sessions k inside in
      let session_state = session_state_of w t k known agrees range.0 range.1 in
      let none = is_idle w.plan.grid t (session_state_at w t k).floor (known.state.session k).floor (session_state_at w t k).operation k (known.state.session k) (known.state.session k).current session_state.sits in
      ap (λ b. first_cause ((not (is_in 1 (row_at w.plan t).sessions k), NoSession) ∷ (b, Idle) ∷ more)) none)
]

refused_before : (a b : Cause) (more : List Cause) (word : Refusal) → first_cause (a ∷ b ∷ []) ≡ Some word → first_cause (a ∷ b ∷ more) ≡ Some word
refused_before a b more word is = go a.0 b.0 is
  where
    go : (p q : Bool) → (if p then Some a.1 else if q then Some b.1 else None) ≡ Some word → (if p then Some a.1 else if q then Some b.1 else first_cause more) ≡ Some word
    go true q h = h
    go false true h = h
    go false false h = absurd (cc)

goes_by : (a b : Cause) (more : List Cause) → first_cause (a ∷ b ∷ []) ≡ None → first_cause (a ∷ b ∷ more) ≡ first_cause more
goes_by a b more is = go a.0 b.0 is
  where
    go : (p q : Bool) → (if p then Some a.1 else if q then Some b.1 else None) ≡ None → (if p then Some a.1 else if q then Some b.1 else first_cause more) ≡ first_cause more
    go true q h = absurd (cc)
    go false true h = absurd (cc)
    go false false h = refl

-- the session is there, and has an operation
some_is : (code : Option Code) → is_none code ≡ false → (c : Code) × (code ≡ Some c)
some_is None is = absurd (cc)
some_is (Some c) is = (c, refl)

pub at_work : (w : Tables) (t k : ℕ) → first_cause (idle_causes w t k) ≡ None → (1 ≤ k) × (k ≤ (row_at w.plan t).sessions) × (code : Code) × ((session_state_at w t k).operation ≡ Some code)
at_work w t k is =
    let none : Cause = (is_none (session_state_at w t k).operation, Idle) in
    let a = first_none (not (is_in 1 (row_at w.plan t).sessions k), NoSession) (none ∷ []) is in
    let b = first_none none [] a.1 in
    let range = in_range (row_at w.plan t).sessions k (not_false (is_in 1 (row_at w.plan t).sessions k) a.0) in
    let code = some_is (session_state_at w t k).operation b.0 in
    (range.0, range.1, code.0, code.1)

-- ---- what the session state stands for

-- the operation of a session state that has one
pub its_operation : (grid : Grid) (t own last : ℕ) (code : Code) (k : ℕ) (s : Session) (current : Option Task) → Sits grid t own (Some code) last (option_map (operation_with k s) current) → (task : Task) × (current ≡ Some task) × StandsFor grid t code (operation_with k s task)
its_operation grid t own last code k s None sits = absurd sits
its_operation grid t own last code k s (Some task) sits = (task, refl, sits)

pub stands : (w : Tables) (t k : ℕ) (code : Code) (known : Known) → Agrees w t known → 1 ≤ k → k ≤ (row_at w.plan t).sessions → (session_state_at w t k).operation ≡ Some code →
    (task : Task) × ((known.state.session k).current ≡ Some task) × StandsFor w.plan.grid t code (operation_with k (known.state.session k) task)
stands w t k code known agrees low high is =
    let session_state = session_state_of w t k known agrees low high in
    let P : Option Code → Type 0 = λ o. Sits w.plan.grid t (session_state_at w t k).floor o (known.state.session k).floor (operation known.state k) in
    its_operation w.plan.grid t (session_state_at w t k).floor (known.state.session k).floor code k (known.state.session k) (known.state.session k).current (subst P is session_state.sits)

pub works : (w : Tables) (t k : ℕ) → IsReady w t → first_cause (idle_causes w t k) ≡ None → IsAtWork (session_state_at w t k).operation
works w t k r is =
    let s = at_work w t k is in
    let o = stands w t k s.2 r.known r.agrees s.0 s.1 s.3 in
    subst IsAtWork (sym s.3) o.2.going

-- ---- it gives its operation up

pub rests_at : (grid : Grid) (t own last : ℕ) (code : Option Code) (k : ℕ) (s : Session) (current : Option Task) → last ≡ s.floor → Sits grid t own code last (option_map (operation_with k s) current) → last_number own code ≡ s.floor
rests_at grid t own last None k s None same sits = sits ∙ same
rests_at grid t own last None k s (Some task) same sits = absurd sits
rests_at grid t own last (Some code) k s None same sits = absurd sits
rests_at grid t own last (Some code) k s (Some task) same sits = sits.floor

pub abandon_refused : (w : Tables) (t k : ℕ) (word : Refusal) → first_cause (idle_causes w t k) ≡ Some word → (known : Known) → Agrees w t known → line_step w.plan.grid (row_at w.plan t) known.state (Abandon k) ≡ quiet (Refused word)
abandon_refused w t k word is known agrees = let same = idle_with w t k known [] agrees ∙ is in rw same refl

abandon_step : (w : Tables) (t k : ℕ) → first_cause (idle_causes w t k) ≡ None → (known : Known) → Agrees w t known → line_step w.plan.grid (row_at w.plan t) known.state (Abandon k) ≡ quiet Abandoned
abandon_step w t k is known agrees = let same = idle_with w t k known [] agrees ∙ is in rw same refl

pub abandon_tells : (w : Tables) (t k : ℕ) → first_cause (idle_causes w t k) ≡ None → TellsLine w t (Abandon k) Abandoned
abandon_tells w t k is known agrees = sym (ap (λ (step : Step). step.told) (abandon_step w t k is known agrees))

-- what is known afterwards: the session has no operation
abbrev given_up : ℕ → State → State
given_up k state = record state { offered = offered_on state; session = λ j. session_by state.volumes j (deed j (record { turn = Own (Abandon k); message = None; told = Abandoned; new = [] })) (state.session j) }

abandon_known : (w : Tables) (t k : ℕ) (known : Known) → first_cause (idle_causes w t k) ≡ None → Agrees w t known → acted w.plan.grid (row_at w.plan t) known (Abandon k) ≡ record known { state = given_up k known.state }
abandon_known w t k known is agrees =
    ap (λ step. record known { state = state_after_turn known.state (Own (Abandon k)) step }) (abandon_step w t k is known agrees)
    ∙ ap (λ messages. record known { state = record (given_up k known.state) { sent = messages } }) (append-nil known.state.sent)

rested : (state : State) (k : ℕ) → (given_up k state).session k ≡ record { op = (state.session k).op; current = None; round = (state.session k).round; heard = (state.session k).heard; collected = (state.session k).collected; floor = (state.session k).floor }
rested state k = rw (eq-eqb k k refl) refl

stays : (state : State) (k j : ℕ) → k ≢ j → (given_up k state).session j ≡ state.session j
stays state k j other = rw (ne_eqb k j other) refl

-- a session, and what a session state has of it
abbrev Has : Grid → ℕ → ℕ → SessionState → Session → Type 0
Has grid t k session_state s = (session_state.op ≡ s.op) × Sits grid t session_state.floor session_state.operation s.floor (option_map (operation_with k s) s.current)

abandon_own : (w : Tables) (t k : ℕ) (known : Known) → t < length w.session_states → k - 1 < length (session_states_at w.session_states t) → first_cause (idle_causes w t k) ≡ None → Agrees w t known → Agrees (rested_tables w t (k - 1)) t (record known { state = given_up k known.state })
abandon_own w t k known tenants places asked agrees =
    let state : State = known.state in
    let s = at_work w t k asked in
    let low = s.0 in
    let old : SessionState = session_state_at w t k in
    let session_state = session_state_of w t k known agrees s.0 s.1 in
    let session_states : List SessionState = slice_set (session_states_at w.session_states t) (k - 1) (rested_session_state old) in
    let here = get_or-set_same w.session_states t session_states [] tenants in
    let new : State = given_up k state in
    record {
      lines = agrees.lines;
      up = agrees.up;
      gone = agrees.gone;
      account = agrees.account;
      sent = agrees.sent;
      lost = agrees.lost;
      messages = agrees.messages;
      accounts = agrees.accounts;
      copies = agrees.copies;
      lacking = agrees.lacking;
      down = agrees.down;
      session_states = λ place within.
          let Q : List SessionState → Type 0 = λ all. SessionStateAgrees w.plan.grid t (place + 1) (session_state_in all place) new in
          subst Q (sym here) (elim (cases_eq place (k - 1)) [
            | inl same ↦ (
                let at : k ≡ place + 1 = omega arith in
                let last = rests_at w.plan.grid t old.floor (state.session k).floor old.operation k (state.session k) (state.session k).current refl session_state.sits in
                let now : Has w.plan.grid t k (rested_session_state old) (new.session k) = subst (Has w.plan.grid t k (rested_session_state old)) (sym (rested state k)) (session_state.op, last) in
                let agreed : SessionStateAgrees w.plan.grid t k (rested_session_state old) new = record { op = now.0; answered = λ busy. absurd (cc); sits = now.1 } in
                let put : session_state_in session_states (k - 1) ≡ rested_session_state old = get_or-set_same (session_states_at w.session_states t) (k - 1) (rested_session_state old) _ places in
                subst (λ j. SessionStateAgrees w.plan.grid t j (session_state_in session_states place) new) at
                (subst (λ q. SessionStateAgrees w.plan.grid t k (session_state_in session_states q) new) (sym same)
                (subst (λ (x : SessionState). SessionStateAgrees w.plan.grid t k x new) (sym put) agreed)))
            | inr other ↦ (
                let apart : k ≢ place + 1 = λ x. other (omega arith) in
                let kept : session_state_in session_states place ≡ session_state_in (session_states_at w.session_states t) place = get_or-set_other (session_states_at w.session_states t) (k - 1) place (rested_session_state old) _ other in
                let before = agrees.session_states place within in
                let there : SessionState = session_state_in (session_states_at w.session_states t) place in
                let now : Has w.plan.grid t (place + 1) there (new.session (place + 1)) = subst (Has w.plan.grid t (place + 1) there) (sym (stays state k (place + 1) apart)) (before.op, before.sits) in
                let agreed : SessionStateAgrees w.plan.grid t (place + 1) there new = record {
                  op = now.0;
                  answered = λ busy server. before.answered busy server ∙ ap (λ x. counts_on state.sent (place + 1) x server) (sym (stays state k (place + 1) apart));
                  sits = now.1;
                } in
                subst (λ (x : SessionState). SessionStateAgrees w.plan.grid t (place + 1) x new) (sym kept) agreed)
          ]);
    }

abandon_other : (w : Tables) (t u place : ℕ) (known : Known) → u ≢ t → Agrees w u known → Agrees (rested_tables w t place) u known
abandon_other w t u place known other agrees =
    let there : session_states_at (rested_tables w t place).session_states u ≡ session_states_at w.session_states u = get_or-set_other w.session_states t u _ [] other in
    record {
      lines = agrees.lines;
      up = agrees.up;
      gone = agrees.gone;
      account = agrees.account;
      sent = agrees.sent;
      lost = agrees.lost;
      messages = agrees.messages;
      accounts = agrees.accounts;
      copies = agrees.copies;
      lacking = agrees.lacking;
      down = agrees.down;
      session_states = λ p within. subst (λ all. SessionStateAgrees w.plan.grid u (p + 1) (session_state_in all p) known.state) (sym there) (agrees.session_states p within);
    }

pub abandon_acts : (w : Tables) (t k : ℕ) → t < length w.session_states → k - 1 < length (session_states_at w.session_states t) → first_cause (idle_causes w t k) ≡ None → Acts w t (Abandon k) (rested_tables w t (k - 1))
abandon_acts w t k tenants places asked = record {
  plan = refl;
  own = λ known most bounded agrees. subst (Agrees (rested_tables w t (k - 1)) t) (sym (abandon_known w t k known asked agrees)) (abandon_own w t k known tenants places asked agrees);
  others = λ u other known agrees. abandon_other w t u (k - 1) known other agrees;
  servers = refl;
  gone = refl;
}

-- ---- it sends its round's message once more

pub retry_refused : (w : Tables) (t k : ℕ) (word : Refusal) → first_cause (idle_causes w t k) ≡ Some word → (known : Known) → Agrees w t known → line_step w.plan.grid (row_at w.plan t) known.state (Retry k) ≡ quiet (Refused word)
retry_refused w t k word is known agrees =
    let more : List Cause = no_quorum w.plan.grid known.state (known.state.session k).round ∷ [] in
    let same = idle_with w t k known more agrees ∙ refused_before (not (is_in 1 (row_at w.plan t).sessions k), NoSession) (is_none (session_state_at w t k).operation, Idle) more word is in
    rw same refl

-- the causes are those of the quorum
retry_causes : (w : Tables) (t k : ℕ) (known : Known) → first_cause (idle_causes w t k) ≡ None → Agrees w t known →
    first_cause (session_causes w.plan.grid (row_at w.plan t) known.state (Retry k)) ≡ first_cause (no_quorum w.plan.grid known.state (known.state.session k).round ∷ [])
retry_causes w t k known is agrees =
    let more : List Cause = no_quorum w.plan.grid known.state (known.state.session k).round ∷ [] in
    idle_with w t k known more agrees ∙ goes_by (not (is_in 1 (row_at w.plan t).sessions k), NoSession) (is_none (session_state_at w t k).operation, Idle) more is

round_quorum_up : (grid : Grid) (up also : Servers) (round : ℕ) → SameQuorums grid up also → round_quorum grid up round ≡ round_quorum grid also round
round_quorum_up grid up also round same = by (is_collect round) refl
  where
    by : (b : Bool) → is_collect round ≡ b → round_quorum grid up round ≡ round_quorum grid also round
    by true is = rw is same.0
    by false is = rw is same.1

-- no quorum is up
refuses : (w : Tables) (t k : ℕ) (code : Code) (known : Known) → Agrees w t known → 1 ≤ k → k ≤ (row_at w.plan t).sessions → (session_state_at w t k).operation ≡ Some code → SessionStateRefuses (session_state_at w t k) (servers w.up) NoneUp →
    round_quorum w.plan.grid known.state.up (known.state.session k).round ≡ None
refuses w t k code known agrees low high is refused =
    let o = stands w t k code known agrees low high is in
    let P : Option Code → Type 0 = λ c. by c in
    let none : RefusesAs code (servers w.up) NoneUp = subst P is refused in
    sym (round_quorum_up w.plan.grid (servers w.up) known.state.up (known.state.session k).round (quorums_in w.plan.grid w.up known.state.up agrees.up))
    ∙ none w.plan.grid t (operation_with k (known.state.session k) o.0) o.2
  where
    by : Option Code → Type 0
    by None = ⊥
    by (Some code) = RefusesAs code (servers w.up) NoneUp

pub none_refused : (w : Tables) (t k : ℕ) → first_cause (idle_causes w t k) ≡ None → SessionStateRefuses (session_state_at w t k) (servers w.up) NoneUp → (known : Known) → Agrees w t known → line_step w.plan.grid (row_at w.plan t) known.state (Retry k) ≡ quiet (Refused NoQuorum)
none_refused w t k asked refused known agrees =
    let s = at_work w t k asked in
    let none = refuses w t k s.2 known agrees s.0 s.1 s.3 refused in
    let causes : first_cause (session_causes w.plan.grid (row_at w.plan t) known.state (Retry k)) ≡ Some NoQuorum =
    retry_causes w t k known asked agrees ∙ ap (λ q. first_cause ((is_none q, NoQuorum) ∷ [])) none in
    rw causes refl

-- what goes out
pub record Resends (w : Tables) (t k : ℕ) (messages : List Message) : Type 0 where
  pub channels : t < length w.channels
  pub asked : first_cause (idle_causes w t k) ≡ None
  pub sends : SessionStateResends (session_state_at w t k) (servers w.up) messages

-- the model's messages
record Again (w : Tables) (t k : ℕ) (known : Known) (messages : List Message) : Type 0 where
  pub new : List OwnMessage
  pub step : line_step w.plan.grid (row_at w.plan t) known.state (Retry k) ≡ record { told = Resent (length known.state.sent) (length new); new = new }
  pub are : messages ≡ map (message_of t) new
  pub few : length new ≤ w.plan.grid.rows * w.plan.grid.cols
  pub uncounted : (j : ℕ) (s : Session) (server : ℕ) → All (λ m. counted j s server m ≡ false) new

sends_again : (grid : Grid) (state : State) (o : Operation) (quorum : Servers) → round_quorum grid state.up o.round ≡ Some quorum → retry_step grid state (Some o) ≡ record { told = Resent (length state.sent) (length (resent grid o quorum)); new = resent grid o quorum }
sends_again grid state o quorum is = rw is refl

few_resent : (grid : Grid) (o : Operation) (quorum : Servers) → length (resent grid o quorum) ≤ grid.rows * grid.cols
few_resent grid o quorum = simp length-map (length-rising grid _)

again : (w : Tables) (t k : ℕ) (messages : List Message) (known : Known) → Resends w t k messages → Agrees w t known → Again w t k known messages
again w t k messages known h agrees =
    let s = at_work w t k h.asked in
    let code : Code = s.2 in
    let found = stands w t k code known agrees s.0 s.1 s.3 in
    let o : Operation = operation_with k (known.state.session k) found.0 in
    let P : Option Code → Type 0 = λ c. by c in
    let sends : ResendsAs code (servers w.up) messages = subst P s.3 h.sends in
    let out = sends w.plan.grid t o found.2 in
    let quorum : Servers = out.0 in
    let there : round_quorum w.plan.grid known.state.up o.round ≡ Some quorum =
    sym (round_quorum_up w.plan.grid (servers w.up) known.state.up o.round (quorums_in w.plan.grid w.up known.state.up agrees.up)) ∙ out.1 in
    let causes : first_cause (session_causes w.plan.grid (row_at w.plan t) known.state (Retry k)) ≡ None =
    retry_causes w t k known h.asked agrees ∙ ap (λ q. first_cause ((is_none q, NoQuorum) ∷ [])) there in
    let is : operation known.state k ≡ Some o = ap (option_map (operation_with k (known.state.session k))) found.1 in
    record {
      new = resent w.plan.grid o quorum;
      step = goes w t k known causes ∙ ap (retry_step w.plan.grid known.state) is ∙ sends_again w.plan.grid known.state o quorum there;
      are = out.2;
      few = few_resent w.plan.grid o quorum;
      uncounted = λ j x server. messages_uncounted w.plan.grid o (λ one. quorum one && not (heard_servers o.heard one)) j x server;
    }
  where
    by : Option Code → Type 0
    by None = ⊥
    by (Some code) = ResendsAs code (servers w.up) messages

    goes : (w : Tables) (t k : ℕ) (known : Known) → first_cause (session_causes w.plan.grid (row_at w.plan t) known.state (Retry k)) ≡ None → line_step w.plan.grid (row_at w.plan t) known.state (Retry k) ≡ retry_step w.plan.grid known.state (operation known.state k)
    goes w t k known none = rw none refl

pub again_tells : (w : Tables) (t k : ℕ) (messages : List Message) → Resends w t k messages → TellsLine w t (Retry k) (Resent (length (channel_at w.channels t)) (length messages))
again_tells w t k messages h known agrees =
    let a = again w t k messages known h agrees in
    let count : length messages ≡ length a.new = ap length a.are ∙ length-map a.new (message_of t) in
    ap (λ first. Resent first (length messages)) agrees.sent ∙ ap (Resent (length known.state.sent)) count ∙ sym (ap (λ (step : Step). step.told) a.step)

again_own : (w : Tables) (t k : ℕ) (messages : List Message) (known : Known) → Resends w t k messages → Agrees w t known → Agrees (record w { channels = with_sent w.channels t messages }) t (acted w.plan.grid (row_at w.plan t) known (Retry k))
again_own w t k messages known h agrees =
    let a = again w t k messages known h agrees in
    let state : State = known.state in
    let channels_is = ap (λ ms. with_sent w.channels t ms) a.are in
    let after : State = record state { sent = state.sent ++ a.new } in
    subst (Agrees (record w { channels = with_sent w.channels t messages }) t) (sym (ap (λ step. record known { state = state_after_turn state (Own (Retry k)) step }) a.step)) (record {
      lines = agrees.lines;
      up = agrees.up;
      gone = agrees.gone;
      account = agrees.account;
      sent = ap (λ channels. length (channel_at channels t)) channels_is ∙ sent_count w.channels t state a.new h.channels agrees.sent;
      lost = new_not_lost state a.new agrees.lost;
      messages = λ m. ap (λ channels. message_at (channel_at channels t) m) channels_is ∙ sent_messages w.channels t state a.new h.channels agrees.sent agrees.messages agrees.lost m;
      accounts = agrees.accounts;
      copies = agrees.copies;
      lacking = agrees.lacking;
      down = agrees.down;
      session_states = λ place within.
          let session_state = agrees.session_states place within in
          record {
            op = session_state.op;
            answered = λ busy server. session_state.answered busy server ∙ sym (more_counted state.sent a.new (place + 1) (state.session (place + 1)) server (a.uncounted (place + 1) (state.session (place + 1)) server));
            sits = session_state.sits;
          };
    })

again_other : (w : Tables) (t u : ℕ) (messages : List Message) (known : Known) → u ≢ t → Agrees w u known → Agrees (record w { channels = with_sent w.channels t messages }) u known
again_other w t u messages known other agrees =
    let channel = channel_there w.channels t u messages other in
    record {
      lines = agrees.lines;
      up = agrees.up;
      gone = agrees.gone;
      account = agrees.account;
      sent = ap length channel ∙ agrees.sent;
      lost = agrees.lost;
      messages = λ m. ap (λ l. message_at l m) channel ∙ agrees.messages m;
      accounts = agrees.accounts;
      copies = agrees.copies;
      lacking = agrees.lacking;
      down = agrees.down;
      session_states = agrees.session_states;
    }

pub again_acts : (w : Tables) (t k : ℕ) (messages : List Message) → Resends w t k messages → Acts w t (Retry k) (record w { channels = with_sent w.channels t messages })
again_acts w t k messages h = record {
  plan = refl;
  own = λ known most bounded agrees. again_own w t k messages known h agrees;
  others = λ u other known agrees. again_other w t u messages known other agrees;
  servers = refl;
  gone = refl;
}
