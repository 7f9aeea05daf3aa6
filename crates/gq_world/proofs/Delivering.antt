-- A message comes to its session.
use Rattle.std.proofs.Common.{◌≡◌, ◌≢◌, ◌∙◌, ℕ, ◌+◌, ◌-◌, ◌*◌, ◌<◌, ◌≤◌, Bool, false, List, [], ◌∷◌, ◌++◌, length, map, refl, sym, ap, subst, Option, Some, None, arith, inl, inr, All}
use Rattle.std.specs.Prelude.{slice_set, option_map, IsSome, ◌==◌}
use Rattle.std.proofs.lemmas.Bool.{cases_eq, ne_eqb, eq-eqb, eqb-true, and_parts}
use Rattle.std.proofs.lemmas.List.Elements.{All-nil}
use Rattle.std.proofs.lemmas.List.{get_or-set_same, get_or-set_other, length-map}
use Rattle.gq_grid.specs.Grid.{Grid, Servers}
use Rattle.gq_grid.specs.Sets.{servers}
use Rattle.gq_grid.specs.declared.ServerSet.{ServerSet}
use Rattle.gq_tag.specs.declared.StoredCopy.{StoredCopy}
use Rattle.gq_tag.specs.declared.Body.{Body}
use Rattle.gq_tag.specs.declared.Body.TheVariants.{Ask, Copy, Store, Stored}
use Rattle.gq_tag.specs.declared.Message.{Message}
use Rattle.gq_tag.specs.Tag.{File, OwnMessage, own_message, message_of, to_server, greatest, first_copy}
use Rattle.gq_desk.specs.CheckedPlan.{row_at}
use Rattle.gq_desk.specs.declared.plans.TenantRow.{TenantRow}
use Rattle.gq_desk.specs.declared.volumes.VolumeRow.{VolumeRow}
use Rattle.gq_post.specs.Channels.{channel_at, message_at}
use Rattle.gq_phase.specs.declared.Heard.{Heard}
use Rattle.gq_phase.specs.declared.operation.Operation.{Operation as Code}
use Rattle.gq_phase.specs.Phase.{Task, Reply, Operation, Heard as Saying, HeardStale, HeardNoted, HeardNext, HeardDone, hear, with_reply, with_decided, in_round, begin_store, begin_collect}
use Rattle.gq_phase.specs.Standing.{heard_as, messages_of}
use Rattle.gq_model.specs.declared.events.Line.TheVariants.{Deliver}
use Rattle.gq_model.specs.Told.{Told}
use Rattle.gq_model.specs.Trace.{Own, Entry, State, Session, Known, changed, own_message_at, held, operation, operation_with, session_by, heard_deed, serves, stored_by, floor_by, counts_on}
use Rattle.gq_model.specs.Lone.{Step, heard_step, hear_step, line_step}
use Rattle.gq_phase.specs.Laws.{SameQuorums}
use Rattle.gq_world.specs.declared.sessions.SessionState.{SessionState}
use Rattle.gq_world.specs.Tables.{Tables, Agrees, SessionStateAgrees, Sits, session_states_at, session_state_in}
use Rattle.gq_world.specs.SessionStates.{SessionStateHears, said_by, operation_after, last_of, answered_after}
use Rattle.gq_world.specs.Saying.{with_sent, heard_told}
use Rattle.gq_world.specs.Machine.{Acts, TellsLine, acted, state_after_turn}
use Rattle.gq_world.specs.Bounds.{BodyFits, room, MessageFits, IsOfSession, IsBounded}
use Rattle.gq_world.proofs.Bounding.{HeardFits, hear_fits}
use Rattle.gq_world.proofs.Counting.{none_in, counted, more_counted, round_uncounted, next_uncounted, same_counted}
use Rattle.gq_world.proofs.Hearing.{said_by_up, hear_cases}
use Rattle.gq_world.proofs.Channels.{sent_count, sent_messages, new_not_lost, channel_there, quorums_in}
use Rattle.gq_world.proofs.Ready.{found, all_at, sent_at}

-- ---- what the model says

-- the entry of the delivery
abbrev pub delivery : ℕ → OwnMessage → ℕ → Saying → Entry
delivery n message first s = record { turn = Own (Deliver n); message = Some message; told = (heard_step first s).told; new = (heard_step first s).new }

hears_as : (grid : Grid) (state : State) (message : OwnMessage) (o : Option Operation) → hear_step grid state message o ≡ heard_step (length state.sent) (said_by grid state.up o message)
hears_as grid state message None = refl
hears_as grid state message (Some o) = refl

step_is : (grid : Grid) (row : TenantRow) (state : State) (n : ℕ) (message : OwnMessage) (s : Saying) → own_message_at state n ≡ Some message → to_server message.body ≡ false → said_by grid state.up (operation state message.session) message ≡ s →
    line_step grid row state (Deliver n) ≡ heard_step (length state.sent) s
step_is grid row state n message s there goes says =
    rw (there, goes) (hears_as grid state message (operation state message.session) ∙ ap (heard_step (length state.sent)) says)

accepted : (state : State) (n first : ℕ) (message : OwnMessage) (s : Saying) → own_message_at state n ≡ Some message → state_after_turn state (Own (Deliver n)) (heard_step first s) ≡ changed (delivery n message first s) state
accepted state n first message HeardStale there = ap (λ l. changed (record { turn = Own (Deliver n); message = l; told = (heard_step first HeardStale).told; new = [] }) state) there
accepted state n first message HeardNoted there = ap (λ l. changed (record { turn = Own (Deliver n); message = l; told = (heard_step first HeardNoted).told; new = [] }) state) there
accepted state n first message (HeardNext round tag messages) there = ap (λ l. changed (record { turn = Own (Deliver n); message = l; told = (heard_step first (HeardNext round tag messages)).told; new = messages }) state) there
accepted state n first message (HeardDone outcome) there = ap (λ l. changed (record { turn = Own (Deliver n); message = l; told = (heard_step first (HeardDone outcome)).told; new = [] }) state) there

pub heard_known : (grid : Grid) (row : TenantRow) (known : Known) (n : ℕ) (message : OwnMessage) (s : Saying) → own_message_at known.state n ≡ Some message → to_server message.body ≡ false → said_by grid known.state.up (operation known.state message.session) message ≡ s →
    acted grid row known (Deliver n) ≡ record known { state = changed (delivery n message (length known.state.sent) s) known.state }
heard_known grid row known n message s there goes says =
    ap (λ step. record known { state = state_after_turn known.state (Own (Deliver n)) step }) (step_is grid row known.state n message s there goes says)
    ∙ ap (λ state. record known { state = state }) (accepted known.state n (length known.state.sent) message s there)

-- ---- what is told and sent

told_as : (first t : ℕ) (s : Saying) → heard_told first (heard_as t s) ≡ (heard_step first s).told
told_as first t HeardStale = refl
told_as first t HeardNoted = refl
told_as first t (HeardNext round tag messages) = ap (λ count. Rattle.gq_model.specs.Told.Round round tag first count) (length-map messages (message_of t))
told_as first t (HeardDone outcome) = refl

sent_as : (first t : ℕ) (s : Saying) → messages_of (heard_as t s) ≡ map (message_of t) (heard_step first s).new
sent_as first t HeardStale = refl
sent_as first t HeardNoted = refl
sent_as first t (HeardNext round tag messages) = refl
sent_as first t (HeardDone outcome) = refl

-- ---- the session

-- a round that begins is a later one
abbrev pub RisesTo : Saying → ℕ → Type 0
RisesTo HeardStale before = Unit {0}
RisesTo HeardNoted before = Unit {0}
RisesTo (HeardNext round tag messages) before = before < round
RisesTo (HeardDone outcome) before = Unit {0}

pub rises : (grid : Grid) (n : ℕ) (volumes : List VolumeRow) (k : ℕ) (message : OwnMessage) (session : Session) (s : Saying) → (session.current ≡ None → s ≡ HeardStale) →
    ((task : Task) → session.current ≡ Some task → HeardFits grid n volumes (operation_with k session task) message s) → RisesTo s session.round
rises grid n volumes k message session s none fits = by session.current refl
  where
    of : (task : Task) (said : Saying) → HeardFits grid n volumes (operation_with k session task) message said → RisesTo said session.round
    of task HeardStale h = tt
    of task HeardNoted h = tt
    of task (HeardNext round tag messages) h = h.2
    of task (HeardDone outcome) h = tt

    by : (o : Option Task) → session.current ≡ o → RisesTo s session.round
    by None is = subst (λ said. RisesTo said session.round) (sym (none is)) tt
    by (Some task) is = of task s (fits task is)

-- what the session's operation says fits
pub saying_fits : (grid : Grid) (row : TenantRow) (n : ℕ) (state : State) (number : ℕ) (message : OwnMessage) → IsBounded grid row n state → own_message_at state number ≡ Some message →
    (task : Task) → (state.session message.session).current ≡ Some task → HeardFits grid n state.volumes (operation_with message.session (state.session message.session) task) message (said_by grid state.up (operation state message.session) message)
saying_fits grid row n state number message h there task is =
    let k : ℕ = message.session in
    let session : Session = state.session k in
    let s : Saying = said_by grid state.up (operation state k) message in
    let sent = sent_at state number message there in
    let fits : MessageFits grid row n state.volumes message = all_at (MessageFits grid row n state.volumes) state.sent number message h.messages sent in
    let owner : IsOfSession session message = all_at (λ l. IsOfSession (state.session l.session) l) state.sent number message h.owners sent in
    let o : Operation = operation_with k session task in
    let own : hear grid state.up o message ≡ s = sym (ap (λ current. said_by grid state.up (option_map (operation_with k session) current) message) is) in
    subst (HeardFits grid n state.volumes o message) own (hear_fits grid state.up n state.volumes o message ((h.sessions k).works task is) (λ cur.
    let parts = and_parts (message.op == o.op) (message.round == o.round) cur in
    let op : message.op ≡ session.op = eqb-true message.op o.op parts.0 in
    subst (λ v. BodyFits n (room state.volumes v) message.body) (owner.volume task is op) fits.body))

pub heard_op : (volumes : List VolumeRow) (k first : ℕ) (message : OwnMessage) (s : Saying) (session : Session) → (session_by volumes k (heard_deed message (heard_step first s).told) session).op ≡ session.op
heard_op volumes k first message HeardStale session = refl
heard_op volumes k first message HeardNoted session = refl
heard_op volumes k first message (HeardNext round tag messages) session = refl
heard_op volumes k first message (HeardDone outcome) session = refl

abbrev pub session_of : ℕ → Option Task → ℕ → List Reply → List StoredCopy → ℕ → Session
session_of op current round heard collected floor = record { op = op; current = current; round = round; heard = heard; collected = collected; floor = floor }

any_last : (grid : Grid) (t own last also : ℕ) (code : Option Code) (o : Operation) → Sits grid t own code last (Some o) → Sits grid t own code also (Some o)
any_last grid t own last also None o sits = sits
any_last grid t own last also (Some code) o sits = sits

heard_sits : (grid : Grid) (t k : ℕ) (volumes : List VolumeRow) (message : OwnMessage) (first op : ℕ) (current : Option Task) (round : ℕ) (heard : List Reply) (collected : List StoredCopy) (floor : ℕ) (s : Saying) (own : ℕ) (code : Option Code) →
    (current ≡ None → s ≡ HeardStale) →
    Sits grid t own code (last_of floor (option_map (operation_with k (session_of op current round heard collected floor)) current)) (operation_after (option_map (operation_with k (session_of op current round heard collected floor)) current) message s) →
    Sits grid t own code (session_by volumes k (heard_deed message (heard_step first s).told) (session_of op current round heard collected floor)).floor
    (option_map (operation_with k (session_by volumes k (heard_deed message (heard_step first s).told) (session_of op current round heard collected floor))) (session_by volumes k (heard_deed message (heard_step first s).told) (session_of op current round heard collected floor)).current)
heard_sits grid t k volumes message first op None round heard collected floor HeardStale own code none sits = sits
heard_sits grid t k volumes message first op None round heard collected floor HeardNoted own code none sits = let e = none refl in absurd (cc)
heard_sits grid t k volumes message first op None round heard collected floor (HeardNext r tag messages) own code none sits = let e = none refl in absurd (cc)
heard_sits grid t k volumes message first op None round heard collected floor (HeardDone outcome) own code none sits = let e = none refl in absurd (cc)
heard_sits grid t k volumes message first op (Some task) round heard collected floor HeardStale own code none sits = sits
heard_sits grid t k volumes message first op (Some task) round heard collected floor HeardNoted own code none sits = sits
heard_sits grid t k volumes message first op (Some task) round heard collected floor (HeardNext r tag messages) own code none sits = any_last grid t own floor (floor_by tag floor (Some task)) code _ sits
heard_sits grid t k volumes message first op (Some task) round heard collected floor (HeardDone outcome) own code none sits = sits

-- the session of the message, and another one
pub own_session : (state : State) (n first : ℕ) (message : OwnMessage) (s : Saying) → to_server message.body ≡ false →
    (changed (delivery n message first s) state).session message.session ≡ session_by state.volumes message.session (heard_deed message (heard_step first s).told) (state.session message.session)
own_session state n first message s goes = rw (goes, eq-eqb message.session message.session refl) refl

pub other_session : (state : State) (n first k : ℕ) (message : OwnMessage) (s : Saying) → to_server message.body ≡ false → message.session ≢ k → (changed (delivery n message first s) state).session k ≡ state.session k
other_session state n first k message s goes other = rw (goes, ne_eqb message.session k other) refl

-- ---- the servers' copies

pub same_brought : (takes : ℕ → File → Bool) (session op round server : ℕ) (file : File) (body : Body) (before : ℕ → File → List StoredCopy) (s : ℕ) (f : File) → to_server body ≡ false →
    stored_by takes (Some (record { session = session; op = op; round = round; server = server; file = file; body = body })) before s f ≡ before s f
same_brought takes session op round server file Ask before s f goes = absurd (cc)
same_brought takes session op round server file (Store copy) before s f goes = absurd (cc)
same_brought takes session op round server file (Copy copy) before s f goes = refl
same_brought takes session op round server file Stored before s f goes = refl

same_held : (state : State) (n first : ℕ) (message : OwnMessage) (s : Saying) (server : ℕ) (file : File) → to_server message.body ≡ false → held (changed (delivery n message first s) state) server file ≡ held state server file
same_held state n first message s server file goes =
    ap (λ copies. greatest (first_copy ∷ copies)) (same_brought (serves state.up state.lacks) message.session message.op message.round message.server message.file message.body state.brought server file goes)

-- ---- the session's part of the tables

-- what a session without an operation says
pub says_stale : (grid : Grid) (up : Servers) (k : ℕ) (session : Session) (message : OwnMessage) (s : Saying) → said_by grid up (option_map (operation_with k session) session.current) message ≡ s → session.current ≡ None → s ≡ HeardStale
says_stale grid up k session message s says none = sym says ∙ ap (λ current. said_by grid up (option_map (operation_with k session) current) message) none

-- the messages that it sends don't count
new_uncounted : (grid : Grid) (up : Servers) (k : ℕ) (session : Session) (first j : ℕ) (of : Session) (message : OwnMessage) (s : Saying) (server : ℕ) → said_by grid up (option_map (operation_with k session) session.current) message ≡ s →
    All (λ m. counted j of server m ≡ false) (heard_step first s).new
new_uncounted grid up k session first j of message s server is = subst P is (by session.current)
  where
    P : Saying → Type 0
    P said = All (λ m. counted j of server m ≡ false) (heard_step first said).new

    stores : (p : Operation) → P (begin_store grid up p)
    stores p = round_uncounted grid up (in_round p (2 * length p.collected)) j of server

    collects : (p : Operation) → P (begin_collect grid up p)
    collects p = round_uncounted grid up (in_round p (2 * length p.collected + 1)) j of server

    by : (current : Option Task) → P (said_by grid up (option_map (operation_with k session) current) message)
    by None = All-nil (λ m. counted j of server m ≡ false)
    by (Some task) = hear_cases P grid up (operation_with k session task) message (All-nil (λ m. counted j of server m ≡ false)) (λ cur. All-nil (λ m. counted j of server m ≡ false))
        (λ cur odd. stores (with_decided (with_reply (operation_with k session task) message)))
        (λ volume files cur odd is more. collects (with_decided (with_reply (operation_with k session task) message)))
        (λ volume files cur even is more. collects (with_reply (operation_with k session task) message))
        (λ outcome. All-nil (λ m. counted j of server m ≡ false))

-- the servers that it counts on afterwards
answered_by : (t : ℕ) (state : State) (k : ℕ) (message : OwnMessage) (first server : ℕ) (s : Saying) (old new : ServerSet) → All (λ m. IsOfSession (state.session m.session) m) state.sent → RisesTo s (state.session k).round →
    servers old server ≡ counts_on state.sent k (state.session k) server → new ≡ answered_after (heard_as t s) old →
    IsSome (session_by state.volumes k (heard_deed message (heard_step first s).told) (state.session k)).current →
    servers new server ≡ counts_on state.sent k (session_by state.volumes k (heard_deed message (heard_step first s).told) (state.session k)) server
answered_by t state k message first server HeardStale old new owners rises before is busy = ap (λ set. servers set server) is ∙ before
answered_by t state k message first server HeardNoted old new owners rises before is busy =
    let after : Session = session_by state.volumes k (heard_deed message (heard_step first HeardNoted).told) (state.session k) in
    ap (λ set. servers set server) is ∙ before ∙ sym (same_counted state.sent k (state.session k) after server refl refl refl)
answered_by t state k message first server (HeardNext round tag messages) old new owners rises before is busy =
    let after : Session = session_by state.volumes k (heard_deed message (heard_step first (HeardNext round tag messages)).told) (state.session k) in
    ap (λ set. servers set server) is ∙ none_in server ∙ sym (next_uncounted state k after server owners refl rises)
answered_by t state k message first server (HeardDone outcome) old new owners rises before is busy = absurd (cc)

pub session_state_after : (grid : Grid) (t n : ℕ) (state : State) (message : OwnMessage) (old new : SessionState) (s : Saying) → All (λ m. IsOfSession (state.session m.session) m) state.sent → RisesTo s (state.session message.session).round → to_server message.body ≡ false → said_by grid state.up (operation state message.session) message ≡ s →
    SessionStateAgrees grid t message.session old state → new.op ≡ old.op → new.answered ≡ answered_after (heard_as t s) old.answered →
    Sits grid t new.floor new.operation (last_of (state.session message.session).floor (operation state message.session)) (operation_after (operation state message.session) message s) →
    SessionStateAgrees grid t message.session new (changed (delivery n message (length state.sent) s) state)
session_state_after grid t n state message old new s owners later goes says agrees op answered sits =
    let k : ℕ = message.session in
    let session : Session = state.session k in
    let first : ℕ = length state.sent in
    let sent : List OwnMessage = state.sent ++ (heard_step first s).new in
    let P : Session → Type 0 = λ after. (new.op ≡ after.op) × (IsSome new.operation → (server : ℕ) → servers new.answered server ≡ counts_on sent k after server) × Sits grid t new.floor new.operation after.floor (option_map (operation_with k after) after.current) in
    let after : Session = session_by state.volumes k (heard_deed message (heard_step first s).told) session in
    let stands = heard_sits grid t k state.volumes message first session.op session.current session.round session.heard session.collected session.floor s new.floor new.operation
    (says_stale grid state.up k session message s says) sits in
    let both : P after = (
      op ∙ agrees.op ∙ sym (heard_op state.volumes k first message s session),
      (λ busy server.
          let works : IsSome after.current = works_still grid t new.floor after.floor new.operation k after after.current stands busy in
          let before : servers old.answered server ≡ counts_on state.sent k session server = agrees.answered (worked grid t k state.volumes message first session.op session.current session.round session.heard session.collected session.floor s old.floor session.floor old.operation agrees.sits works) server in
          answered_by t state k message first server s old.answered new.answered owners later before answered works
          ∙ sym (more_counted state.sent (heard_step first s).new k after server (new_uncounted grid state.up k session first k after message s server says))),
      stands,
    ) in
    let now : P ((changed (delivery n message first s) state).session k) = subst P (sym (own_session state n first message s goes)) both in
    record { op = now.0; answered = now.1; sits = now.2 }
  where
    -- a session state with an operation stands for one
    works_still : (grid : Grid) (t own last : ℕ) (code : Option Code) (k : ℕ) (s : Session) (current : Option Task) → Sits grid t own code last (option_map (operation_with k s) current) → IsSome code → IsSome current
    works_still grid t own last None k s current sits busy = absurd (cc)
    works_still grid t own last (Some code) k s None sits busy = absurd sits
    works_still grid t own last (Some code) k s (Some task) sits busy = refl

    -- which it had before
    worked : (grid : Grid) (t k : ℕ) (volumes : List VolumeRow) (message : OwnMessage) (first op : ℕ) (current : Option Task) (round : ℕ) (heard : List Reply) (collected : List StoredCopy) (floor : ℕ) (s : Saying) (own last : ℕ) (code : Option Code) →
        Sits grid t own code last (option_map (operation_with k (session_of op current round heard collected floor)) current) →
        IsSome (session_by volumes k (heard_deed message (heard_step first s).told) (session_of op current round heard collected floor)).current → IsSome code
    worked grid t k volumes message first op None round heard collected floor HeardStale own last code sits busy = absurd (cc)
    worked grid t k volumes message first op None round heard collected floor HeardNoted own last code sits busy = absurd (cc)
    worked grid t k volumes message first op None round heard collected floor (HeardNext r tag messages) own last code sits busy = absurd (cc)
    worked grid t k volumes message first op current round heard collected floor (HeardDone outcome) own last code sits busy = absurd (cc)
    worked grid t k volumes message first op (Some task) round heard collected floor s own last None sits busy = absurd sits
    worked grid t k volumes message first op (Some task) round heard collected floor s own last (Some code) sits busy = refl

pub session_state_stays : (grid : Grid) (t n k : ℕ) (state : State) (message : OwnMessage) (session_state : SessionState) (s : Saying) → said_by grid state.up (operation state message.session) message ≡ s → to_server message.body ≡ false → message.session ≢ k → SessionStateAgrees grid t k session_state state →
    SessionStateAgrees grid t k session_state (changed (delivery n message (length state.sent) s) state)
session_state_stays grid t n k state message session_state s says goes other agrees =
    let first : ℕ = length state.sent in
    let sent : List OwnMessage = state.sent ++ (heard_step first s).new in
    let P : Session → Type 0 = λ after. (session_state.op ≡ after.op) × (IsSome session_state.operation → (server : ℕ) → servers session_state.answered server ≡ counts_on sent k after server) × Sits grid t session_state.floor session_state.operation after.floor (option_map (operation_with k after) after.current) in
    let still : IsSome session_state.operation → (server : ℕ) → servers session_state.answered server ≡ counts_on sent k (state.session k) server = λ busy server.
    agrees.answered busy server ∙ sym (more_counted state.sent (heard_step first s).new k (state.session k) server (new_uncounted grid state.up message.session (state.session message.session) first k (state.session k) message s server says)) in
    let now : P ((changed (delivery n message first s) state).session k) = subst P (sym (other_session state n first k message s goes other)) (agrees.op, still, agrees.sits) in
    record { op = now.0; answered = now.1; sits = now.2 }

-- ---- the tables

-- what the message's delivery to its session changed
pub record HearsAt (w : Tables) (t n : ℕ) (m : Message) (session_states : List SessionState) (heard : Heard) : Type 0 where
  pub there : message_at (channel_at w.channels t) n ≡ Some m
  pub goes : to_server m.body ≡ false
  pub within : t < length w.plan.rows
  pub channels : t < length w.channels
  pub tenants : t < length w.session_states
  pub first : 1 ≤ m.session
  pub last : m.session ≤ (row_at w.plan t).sessions
  pub hears : SessionStateHears (session_state_in (session_states_at w.session_states t) (m.session - 1)) (session_state_in session_states (m.session - 1)) (servers w.up) m heard
  pub others : (place : ℕ) → place ≢ m.session - 1 → session_state_in session_states place ≡ session_state_in (session_states_at w.session_states t) place

-- the tables after it
abbrev pub heard_tables : Tables → ℕ → List SessionState → Heard → Tables
heard_tables w t session_states heard = record w { channels = with_sent w.channels t (messages_of heard); session_states = slice_set w.session_states t session_states }

-- what the operation that is known of the session says
says : (w : Tables) (t n : ℕ) (m : Message) (session_states : List SessionState) (heard : Heard) (known : Known) (message : OwnMessage) → HearsAt w t n m session_states heard → Agrees w t known → m ≡ message_of t message →
    heard ≡ heard_as t (said_by w.plan.grid known.state.up (operation known.state message.session) message)
says w t n m session_states heard known message h agrees is =
    let first = h.first in
    let last = h.last in
    let within : m.session - 1 < (row_at w.plan t).sessions = omega arith in
    let session : m.session - 1 + 1 ≡ message.session = omega (arith, ap (λ (x : Message). x.session) is) in
    let P : ℕ → Type 0 = λ k. SessionStateAgrees w.plan.grid t k (session_state_in (session_states_at w.session_states t) (m.session - 1)) known.state in
    let session_state : P message.session = subst P session (agrees.session_states (m.session - 1) within) in
    let up : SameQuorums w.plan.grid (servers w.up) known.state.up = quorums_in w.plan.grid w.up known.state.up agrees.up in
    h.hears.says w.plan.grid t _ (operation known.state message.session) session_state.sits
    ∙ ap (λ l. heard_as t (said_by w.plan.grid (servers w.up) (operation known.state message.session) l)) (ap own_message is)
    ∙ ap (heard_as t) (said_by_up w.plan.grid (servers w.up) known.state.up (operation known.state message.session) message up)

pub heard_tells : (w : Tables) (t n : ℕ) (m : Message) (session_states : List SessionState) (heard : Heard) → HearsAt w t n m session_states heard → TellsLine w t (Deliver n) (heard_told (length (channel_at w.channels t)) heard)
heard_tells w t n m session_states heard h known agrees =
    let f = found w t n m known agrees h.there in
    let message : OwnMessage = f.0 in
    let goes : to_server message.body ≡ false = ap (λ (x : Message). to_server x.body) (sym f.2) ∙ h.goes in
    let s : Saying = said_by w.plan.grid known.state.up (operation known.state message.session) message in
    ap (heard_told (length (channel_at w.channels t))) (says w t n m session_states heard known message h agrees f.2)
    ∙ ap (λ first. heard_told first (heard_as t s)) agrees.sent
    ∙ told_as (length known.state.sent) t s
    ∙ sym (ap (λ (step : Step). step.told) (step_is w.plan.grid (row_at w.plan t) known.state n message s f.1 goes refl))

heard_own : (w : Tables) (t n : ℕ) (m : Message) (session_states : List SessionState) (heard : Heard) (known : Known) (message : OwnMessage) (s : Saying) → All (λ m. IsOfSession (known.state.session m.session) m) known.state.sent → RisesTo s (known.state.session message.session).round → HearsAt w t n m session_states heard → Agrees w t known → m ≡ message_of t message →
    said_by w.plan.grid known.state.up (operation known.state message.session) message ≡ s → heard ≡ heard_as t s →
    Agrees (heard_tables w t session_states heard) t (record known { state = changed (delivery n message (length known.state.sent) s) known.state })
heard_own w t n m session_states heard known message s owners later h agrees is said heard_is =
    let state : State = known.state in
    let new : List OwnMessage = (heard_step (length state.sent) s).new in
    let goes : to_server message.body ≡ false = ap (λ (x : Message). to_server x.body) (sym is) ∙ h.goes in
    let channels_is : with_sent w.channels t (messages_of heard) ≡ with_sent w.channels t (map (message_of t) new) = ap (with_sent w.channels t) (ap messages_of heard_is ∙ sent_as (length state.sent) t s) in
    let here : session_states_at (slice_set w.session_states t session_states) t ≡ session_states = get_or-set_same w.session_states t session_states [] h.tenants in
    record {
      lines = agrees.lines;
      up = agrees.up;
      gone = agrees.gone;
      account = agrees.account;
      sent = ap (λ channels. length (channel_at channels t)) channels_is ∙ sent_count w.channels t state new h.channels agrees.sent;
      lost = new_not_lost state new agrees.lost;
      messages = λ k. ap (λ channels. message_at (channel_at channels t) k) channels_is ∙ sent_messages w.channels t state new h.channels agrees.sent agrees.messages agrees.lost k;
      accounts = agrees.accounts;
      copies = λ server within file. agrees.copies server within file ∙ sym (same_held state n (length state.sent) message s server file goes);
      lacking = agrees.lacking;
      down = agrees.down;
      session_states = λ place within.
          let first = h.first in
          let last = h.last in
          let k : m.session ≡ message.session = ap (λ (x : Message). x.session) is in
          let Q : List SessionState → Type 0 = λ all. SessionStateAgrees w.plan.grid t (place + 1) (session_state_in all place) (changed (delivery n message (length state.sent) s) state) in
          subst Q (sym here) (elim (cases_eq place (m.session - 1)) [
            | inl same ↦ (
                let at : place + 1 ≡ message.session = omega arith in
                let old : SessionState = session_state_in (session_states_at w.session_states t) (m.session - 1) in
                let now : SessionState = session_state_in session_states (m.session - 1) in
                let P : ℕ → Type 0 = λ j. SessionStateAgrees w.plan.grid t j old state in
                let R : ℕ → Type 0 = λ j. SessionStateAgrees w.plan.grid t j (session_state_in session_states place) (changed (delivery n message (length state.sent) s) state) in
                let before : P message.session = subst P at (subst (λ q. SessionStateAgrees w.plan.grid t (place + 1) (session_state_in (session_states_at w.session_states t) q) state) same (agrees.session_states place within)) in
                let up : SameQuorums w.plan.grid (servers w.up) state.up = quorums_in w.plan.grid w.up state.up agrees.up in
                let S : Saying → Type 0 = λ x. Sits w.plan.grid t now.floor now.operation (last_of (state.session message.session).floor (operation state message.session)) (operation_after (operation state message.session) message x) in
                let T : OwnMessage → Type 0 = λ l. Sits w.plan.grid t now.floor now.operation (last_of (state.session message.session).floor (operation state message.session)) (operation_after (operation state message.session) l (said_by w.plan.grid (servers w.up) (operation state message.session) l)) in
                let sits : S s = subst S (said_by_up w.plan.grid (servers w.up) state.up (operation state message.session) message up ∙ said)
                (subst T (ap own_message is) (h.hears.sits w.plan.grid t _ (operation state message.session) before.sits)) in
                subst R (sym at) (subst (λ q. SessionStateAgrees w.plan.grid t message.session (session_state_in session_states q) (changed (delivery n message (length state.sent) s) state)) (sym same)
                (session_state_after w.plan.grid t n state message old now s owners later goes said before h.hears.op (h.hears.answered ∙ ap (λ x. answered_after x old.answered) heard_is) sits)))
            | inr other ↦ (
                let apart : message.session ≢ place + 1 = λ e. other (omega arith) in
                subst (λ (session_state : SessionState). SessionStateAgrees w.plan.grid t (place + 1) session_state (changed (delivery n message (length state.sent) s) state)) (sym (h.others place other))
                (session_state_stays w.plan.grid t n (place + 1) state message (session_state_in (session_states_at w.session_states t) place) s said goes apart (agrees.session_states place within)))
          ]);
    }

heard_other : (w : Tables) (t u : ℕ) (session_states : List SessionState) (heard : Heard) (known : Known) → u ≢ t → Agrees w u known → Agrees (heard_tables w t session_states heard) u known
heard_other w t u session_states heard known other agrees =
    let channel : channel_at (with_sent w.channels t (messages_of heard)) u ≡ channel_at w.channels u = channel_there w.channels t u (messages_of heard) other in
    let there : session_states_at (slice_set w.session_states t session_states) u ≡ session_states_at w.session_states u = get_or-set_other w.session_states t u session_states [] other in
    record {
      lines = agrees.lines;
      up = agrees.up;
      gone = agrees.gone;
      account = agrees.account;
      sent = ap length channel ∙ agrees.sent;
      lost = agrees.lost;
      messages = λ k. ap (λ l. message_at l k) channel ∙ agrees.messages k;
      accounts = agrees.accounts;
      copies = agrees.copies;
      lacking = agrees.lacking;
      down = agrees.down;
      session_states = λ place within. subst (λ all. SessionStateAgrees w.plan.grid u (place + 1) (session_state_in all place) known.state) (sym there) (agrees.session_states place within);
    }

pub heard_acts : (w : Tables) (t n : ℕ) (m : Message) (session_states : List SessionState) (heard : Heard) → HearsAt w t n m session_states heard → Acts w t (Deliver n) (heard_tables w t session_states heard)
heard_acts w t n m session_states heard h = record {
  plan = refl;
  own = λ known most bounded agrees.
      let f = found w t n m known agrees h.there in
      let message : OwnMessage = f.0 in
      let goes : to_server message.body ≡ false = ap (λ (x : Message). to_server x.body) (sym f.2) ∙ h.goes in
      let s : Saying = said_by w.plan.grid known.state.up (operation known.state message.session) message in
      subst (Agrees (heard_tables w t session_states heard) t) (sym (heard_known w.plan.grid (row_at w.plan t) known n message s f.1 goes refl))
      (heard_own w t n m session_states heard known message s bounded.owners
      (rises w.plan.grid most known.state.volumes message.session message (known.state.session message.session) s (says_stale w.plan.grid known.state.up message.session (known.state.session message.session) message s refl) (saying_fits w.plan.grid (row_at w.plan t) most known.state n message bounded f.1))
      h agrees f.2 refl (says w t n m session_states heard known message h agrees f.2));
  others = λ u other known agrees. heard_other w t u session_states heard known other agrees;
  servers = refl;
  gone = refl;
}
