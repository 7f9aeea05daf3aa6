-- A message comes to its server.
use Rattle.std.proofs.Common.{◌≡◌, ◌≢◌, ◌∙◌, ℕ, ◌+◌, ◌-◌, ◌*◌, ◌<◌, ◌≤◌, Bool, true, false, ◌&&◌, ◌||◌, not, List, [], ◌∷◌, ◌++◌, length, map, refl, sym, ap, subst, Option, Some, None, arith, inl, inr, append-nil}
use Rattle.std.specs.Prelude.{IsSome, is_some, slice_set, slice_get, option_map, unwrap_or, nat_lt, ◌==◌, if◌then◌else◌, fold}
use Rattle.std.specs.Option.{option_and_then}
use Rattle.std.proofs.lemmas.Bool.{cases_eq, cases_Bool, ne_eqb, eq-eqb, eqb-true, and_from}
use Rattle.std.proofs.lemmas.Bool.Decides.{nat_tests}
use Rattle.std.proofs.lemmas.List.{get_or-set_same, get_or-set_other}
use Rattle.gq_grid.specs.Grid.{Grid, Servers}
use Rattle.gq_grid.proofs.Same.{or-false}
use Rattle.gq_grid.specs.Sets.{servers}
use Rattle.gq_grid.specs.declared.ServerSet.{ServerSet}
use Rattle.gq_tag.specs.declared.StoredCopy.{StoredCopy}
use Rattle.gq_tag.specs.declared.FileId.{FileId}
use Rattle.gq_tag.specs.declared.Body.{Body}
use Rattle.gq_tag.specs.declared.Body.TheVariants.{Ask, Copy, Store, Stored}
use Rattle.gq_tag.specs.declared.Message.{Message}
use Rattle.gq_tag.specs.Tag.{File, is_file, OwnMessage, message_of, file_of, to_server, greatest, latest, first_copy, newer_of, answer_body}
use Rattle.gq_tag.proofs.Greatest.{latest-append, latest-cons}
use Rattle.gq_desk.specs.CheckedPlan.{row_at}
use Rattle.gq_desk.specs.declared.plans.TenantRow.{TenantRow}
use Rattle.gq_desk.specs.declared.volumes.VolumeRow.{VolumeRow}
use Rattle.gq_desk.specs.Volumes.{Account, account_at, limit_in}
use Rattle.gq_post.specs.Channels.{channel_at, message_at}
use Rattle.gq_store.specs.Copies.{StoreCopies, store_accounts, copy_at, file_limit}
use Rattle.gq_store.specs.Serving.{server_reply, held_after, serve_fault, fault_in}
use Rattle.gq_model.specs.declared.events.Line.TheVariants.{Deliver}
use Rattle.gq_model.specs.Told.{Replied, IsDown}
use Rattle.gq_model.specs.Trace.{Own, Entry, State, Session, Known, changed, own_message_at, held, operation_with, serves, stored_by, account_of, operation, counts_on, is_awaited}
use Rattle.gq_model.specs.Lone.{Step, quiet, reply_to, line_step}
use Rattle.gq_laws.proofs.OperationMoments.{same_file}
use Rattle.gq_world.specs.declared.sessions.SessionState.{SessionState}
use Rattle.gq_world.specs.Bounds.{room, BodyFits, IsThere}
use Rattle.gq_world.specs.Tables.{Tables, Agrees, SessionStateAgrees, Sits, IsReady, store_at, no_store, session_states_at, session_state_in, up_in}
use Rattle.gq_phase.specs.declared.operation.Operation.{Operation as Code}
use Rattle.gq_phase.specs.Standing.{is_current_as}
use Rattle.gq_phase.specs.Course.{round_of}
use Rattle.gq_world.specs.Saying.{with_sent}
use Rattle.gq_world.specs.SessionStates.{SessionStateAnswers, is_of}
use Rattle.gq_world.proofs.Counting.{counted, one_counted, not_own}
use Rattle.gq_world.proofs.RetriesAndAbandons.{its_operation}
use Rattle.gq_world.specs.Machine.{Acts, TellsLine, acted, state_after_turn}
use Rattle.gq_world.proofs.Channels.{sent_count, sent_messages, new_not_lost, channel_there}
use Rattle.gq_world.proofs.Ready.{found, message_fits}

-- ---- the server is up or not

pub up_here : (grid : Grid) (set : ServerSet) (s : ℕ) → s < grid.rows * grid.cols → up_in grid set s ≡ servers set s
up_here grid set s within = by (nat_lt s (grid.rows * grid.cols)) (grind (arith, nat_tests))
  where
    by : (b : Bool) → b ≡ true → (if b then servers set s else true) ≡ servers set s
    by b is = rw is refl

-- a server serves a file where it is up: it has the file then
serves_is : (up gone lacking : Bool) → lacking ≡ gone → (gone ≡ true → up ≡ false) → (not lacking && up) ≡ up
serves_is up true lacking same down = rw (same, down refl) refl
serves_is up false lacking same down = rw same refl

serves_up : (w : Tables) (t server : ℕ) (is : Bool) (known : Known) (message : OwnMessage) → Agrees w t known → server ≡ message.server → server < w.plan.grid.rows * w.plan.grid.cols → servers w.up server ≡ is → serves known.state.up known.state.lacks message.server message.file ≡ is
serves_up w t server is known message agrees same within up =
    serves_is (known.state.up message.server) (known.state.gone message.server) (known.state.lacks message.server message.file) (agrees.lacking message.server message.file) (agrees.down message.server)
    ∙ ap known.state.up (sym same) ∙ ap (λ (up : Servers). up server) (sym agrees.up) ∙ up_here w.plan.grid w.up server within ∙ up

-- ---- what the model says

abbrev pub serving : ℕ → OwnMessage → ℕ → StoredCopy → Entry
serving n message first copy = record { turn = Own (Deliver n); message = Some message; told = Replied first; new = reply_to copy message ∷ [] }

serve_is : (grid : Grid) (row : TenantRow) (state : State) (n : ℕ) (message : OwnMessage) → own_message_at state n ≡ Some message → to_server message.body ≡ true → serves state.up state.lacks message.server message.file ≡ true →
    line_step grid row state (Deliver n) ≡ record { told = Replied (length state.sent); new = reply_to (held state message.server message.file) message ∷ [] }
serve_is grid row state n message there goes up = rw (there, goes, up) refl

down_is : (grid : Grid) (row : TenantRow) (state : State) (n : ℕ) (message : OwnMessage) → own_message_at state n ≡ Some message → to_server message.body ≡ true → serves state.up state.lacks message.server message.file ≡ false →
    line_step grid row state (Deliver n) ≡ quiet IsDown
down_is grid row state n message there goes down = rw (there, goes, down) refl

pub served_known : (grid : Grid) (row : TenantRow) (known : Known) (n : ℕ) (message : OwnMessage) → own_message_at known.state n ≡ Some message → to_server message.body ≡ true → serves known.state.up known.state.lacks message.server message.file ≡ true →
    acted grid row known (Deliver n) ≡ record known { state = changed (serving n message (length known.state.sent) (held known.state message.server message.file)) known.state }
served_known grid row known n message there goes up =
    ap (λ step. record known { state = state_after_turn known.state (Own (Deliver n)) step }) (serve_is grid row known.state n message there goes up)
    ∙ ap (λ l. record known { state = changed (record { turn = Own (Deliver n); message = l; told = Replied (length known.state.sent); new = reply_to (held known.state message.server message.file) message ∷ [] }) known.state }) there

pub down_known : (grid : Grid) (row : TenantRow) (known : Known) (n : ℕ) (message : OwnMessage) → own_message_at known.state n ≡ Some message → to_server message.body ≡ true → serves known.state.up known.state.lacks message.server message.file ≡ false →
    acted grid row known (Deliver n) ≡ record known { state = changed (record { turn = Own (Deliver n); message = Some message; told = IsDown; new = [] }) known.state }
down_known grid row known n message there goes down =
    ap (λ step. record known { state = state_after_turn known.state (Own (Deliver n)) step }) (down_is grid row known.state n message there goes down)
    ∙ ap (λ l. record known { state = changed (record { turn = Own (Deliver n); message = l; told = IsDown; new = [] }) known.state }) there

-- ---- the copies

-- the greatest of a file's copies and one more
greatest_more : (copies : List StoredCopy) (c : StoredCopy) → greatest (first_copy ∷ (copies ++ c ∷ [])) ≡ newer_of (greatest (first_copy ∷ copies)) c
greatest_more copies c =
    let b : StoredCopy = fold newer_of first_copy copies in
    let before : latest (first_copy ∷ copies) ≡ Some b = latest-cons first_copy copies in
    ap (λ o. unwrap_or o first_copy) (latest-append (first_copy ∷ copies) c b before)
    ∙ ap (λ copy. newer_of copy c) (sym (ap (λ o. unwrap_or o first_copy) before))

brought_here : (takes : ℕ → File → Bool) (session op round server : ℕ) (file : File) (copy : StoredCopy) (before : ℕ → File → List StoredCopy) → takes server file ≡ true →
    stored_by takes (Some (record { session = session; op = op; round = round; server = server; file = file; body = Store copy })) before server file ≡ before server file ++ copy ∷ []
brought_here takes session op round server file copy before is = rw (is, eq-eqb server server refl, eq-eqb file.volume file.volume refl, eq-eqb file.place file.place refl) refl

-- what is held of the message's file at its server; of another file, or at another server
held_here : (takes : ℕ → File → Bool) (session op round server : ℕ) (file : File) (body : Body) (before : ℕ → File → List StoredCopy) → takes server file ≡ true →
    greatest (first_copy ∷ stored_by takes (Some (record { session = session; op = op; round = round; server = server; file = file; body = body })) before server file) ≡ held_after (greatest (first_copy ∷ before server file)) body
held_here takes session op round server file Ask before is = refl
held_here takes session op round server file (Copy copy) before is = refl
held_here takes session op round server file Stored before is = refl
held_here takes session op round server file (Store copy) before is =
    ap (λ copies. greatest (first_copy ∷ copies)) (brought_here takes session op round server file copy before is) ∙ greatest_more (before server file) copy

held_there : (takes : ℕ → File → Bool) (session op round server : ℕ) (file : File) (body : Body) (before : ℕ → File → List StoredCopy) (s : ℕ) (f : File) → ((server == s) && is_file file f) ≡ false →
    stored_by takes (Some (record { session = session; op = op; round = round; server = server; file = file; body = body })) before s f ≡ before s f
held_there takes session op round server file Ask before s f other = refl
held_there takes session op round server file (Copy copy) before s f other = refl
held_there takes session op round server file Stored before s f other = refl
held_there takes session op round server file (Store copy) before s f other = rw other refl

-- ---- what the store did

pub record Serves (w : Tables) (t n : ℕ) (m reply : Message) (store : StoreCopies) (session_states : List SessionState) : Type 0 where
  pub there : message_at (channel_at w.channels t) n ≡ Some m
  pub goes : to_server m.body ≡ true
  pub up : servers w.up m.server ≡ true
  pub channels : t < length w.channels
  pub server : m.server < w.plan.grid.rows * w.plan.grid.cols
  pub stores : m.server < length w.stores
  pub reply_is : reply ≡ server_reply (copy_at (store_at w.stores m.server) m.file) m
  pub held : copy_at store m.file ≡ held_after (copy_at (store_at w.stores m.server) m.file) m.body
  pub others : (other : FileId) → other ≢ m.file → copy_at store other ≡ copy_at (store_at w.stores m.server) other
  pub accounts : store_accounts store ≡ store_accounts (store_at w.stores m.server)
  pub tenants : t < length w.session_states
  pub first : 1 ≤ m.session
  pub last : m.session ≤ (row_at w.plan t).sessions
  pub answers : SessionStateAnswers (session_state_in (session_states_at w.session_states t) (m.session - 1)) (session_state_in session_states (m.session - 1)) m
  pub stays : (place : ℕ) → place ≢ m.session - 1 → session_state_in session_states place ≡ session_state_in (session_states_at w.session_states t) place

abbrev pub served_tables : Tables → ℕ → Message → Message → StoreCopies → List SessionState → Tables
served_tables w t m reply store session_states = record w { stores = slice_set w.stores m.server store; channels = with_sent w.channels t (reply ∷ []); session_states = slice_set w.session_states t session_states }

reply_as : (t : ℕ) (copy : StoredCopy) (message : OwnMessage) → to_server message.body ≡ true → server_reply copy (message_of t message) ≡ message_of t (reply_to copy message)
reply_as t copy message goes = refl

-- the accounts of the stores stay
account_stays : (w : Tables) (u : ℕ) (m : Message) (store : StoreCopies) (s : ℕ) → m.server < length w.stores → store_accounts store ≡ store_accounts (store_at w.stores m.server) → account_at (store_accounts (store_at w.stores s)) u ≡ account_at w.desk u →
    account_at (store_accounts (store_at (slice_set w.stores m.server store) s)) u ≡ account_at w.desk u
account_stays w u m store s within same before = elim (cases_eq s m.server) [
  | inl at ↦ (
      let P : ℕ → Type 0 = λ x. account_at (store_accounts (store_at w.stores x)) u ≡ account_at w.desk u in
      let Q : ℕ → Type 0 = λ x. account_at (store_accounts (store_at (slice_set w.stores m.server store) x)) u ≡ account_at w.desk u in
      subst Q (sym at) (ap (λ (x : StoreCopies). account_at (store_accounts x) u) (get_or-set_same w.stores m.server store no_store within) ∙ ap (λ accounts. account_at accounts u) same ∙ subst P at before))
  | inr other ↦ (ap (λ (x : StoreCopies). account_at (store_accounts x) u) (get_or-set_other w.stores m.server s store no_store other) ∙ before)
]

other_file : (t : ℕ) (a b : File) → is_file a b ≡ false → file_of t b ≢ file_of t a
other_file t a b differs same =
    let v : a.volume ≡ b.volume = ap (λ (f : FileId). f.volume) (sym same) in
    let p : a.place ≡ b.place = ap (λ (f : FileId). f.file) (sym same) in
    let is : is_file a b ≡ true = and_from (a.volume == b.volume) (a.place == b.place) (eq-eqb a.volume b.volume v) (eq-eqb a.place b.place p) in
    let e = sym is ∙ differs in
    cc

copies_here : (w : Tables) (t n : ℕ) (m reply : Message) (store : StoreCopies) (session_states : List SessionState) (known : Known) (message : OwnMessage) → Serves w t n m reply store session_states → Agrees w t known → m ≡ message_of t message → serves known.state.up known.state.lacks message.server message.file ≡ true →
    (s : ℕ) → s < w.plan.grid.rows * w.plan.grid.cols → (file : File) →
    copy_at (store_at (slice_set w.stores m.server store) s) (file_of t file) ≡ held (changed (serving n message (length known.state.sent) (held known.state message.server message.file)) known.state) s file
copies_here w t n m reply store session_states known message h agrees is up s within file =
    let server : m.server ≡ message.server = ap (λ (x : Message). x.server) is in
    let file_is : m.file ≡ file_of t message.file = ap (λ (x : Message). x.file) is in
    let body : m.body ≡ message.body = ap (λ (x : Message). x.body) is in
    elim (cases_eq s m.server) [
      | inr other ↦ (
          let apart : message.server ≢ s = λ e. other (sym e ∙ sym server) in
          let no : ((message.server == s) && is_file message.file file) ≡ false = rw (ne_eqb message.server s apart) refl in
          ap (λ (x : StoreCopies). copy_at x (file_of t file)) (get_or-set_other w.stores m.server s store no_store other)
          ∙ agrees.copies s within file
          ∙ sym (ap (λ copies. greatest (first_copy ∷ copies)) (held_there (serves known.state.up known.state.lacks) message.session message.op message.round message.server message.file message.body known.state.brought s file no)))
      | inl at ↦ (
          let here : store_at (slice_set w.stores m.server store) s ≡ store = ap (store_at (slice_set w.stores m.server store)) at ∙ get_or-set_same w.stores m.server store no_store h.stores in
          ap (λ (x : StoreCopies). copy_at x (file_of t file)) here
          ∙ elim (cases_Bool (is_file message.file file)) [
            | inl same ↦ (
                let f : message.file ≡ file = same_file message.file file same in
                let before : copy_at (store_at w.stores m.server) m.file ≡ held known.state message.server message.file =
                ap (λ x. copy_at (store_at w.stores m.server) x) file_is ∙ agrees.copies m.server h.server message.file ∙ ap (λ x. held known.state x message.file) server in
                let now : copy_at store (file_of t message.file) ≡ held_after (held known.state message.server message.file) message.body =
                ap (copy_at store) (sym file_is) ∙ h.held ∙ ap (λ copy. held_after copy m.body) before ∙ ap (held_after (held known.state message.server message.file)) body in
                let after : held (changed (serving n message (length known.state.sent) (held known.state message.server message.file)) known.state) message.server message.file ≡ held_after (held known.state message.server message.file) message.body =
                held_here (serves known.state.up known.state.lacks) message.session message.op message.round message.server message.file message.body known.state.brought up in
                ap (λ x. copy_at store (file_of t x)) (sym f) ∙ now ∙ sym after
                ∙ ap (λ x. held (changed (serving n message (length known.state.sent) (held known.state message.server message.file)) known.state) x message.file) (sym server ∙ sym at)
                ∙ ap (held (changed (serving n message (length known.state.sent) (held known.state message.server message.file)) known.state) s) f)
            | inr differs ↦ (
                let no : ((message.server == s) && is_file message.file file) ≡ false = rw differs (and_no (message.server == s)) in
                let apart : file_of t file ≢ m.file = λ e. other_file t message.file file differs (e ∙ file_is) in
                h.others (file_of t file) apart
                ∙ ap (λ x. copy_at (store_at w.stores x) (file_of t file)) (sym at)
                ∙ agrees.copies s within file
                ∙ sym (ap (λ copies. greatest (first_copy ∷ copies)) (held_there (serves known.state.up known.state.lacks) message.session message.op message.round message.server message.file message.body known.state.brought s file no)))
          ])
    ]
  where
    and_no : (b : Bool) → (b && false) ≡ false
    and_no true = refl
    and_no false = refl

-- a message to a server does nothing in a session
pub no_deed : (state : State) (n first k : ℕ) (message : OwnMessage) (copy : StoredCopy) → to_server message.body ≡ true → (changed (serving n message first copy) state).session k ≡ state.session k
no_deed state n first k message copy goes = rw goes refl

pub session_state_same : (grid : Grid) (t k : ℕ) (session_state : SessionState) (old new : State) → new.session k ≡ old.session k → ((server : ℕ) → counts_on new.sent k (old.session k) server ≡ counts_on old.sent k (old.session k) server) → SessionStateAgrees grid t k session_state old → SessionStateAgrees grid t k session_state new
session_state_same grid t k session_state old new same counts agrees =
    let P : Session → Type 0 = λ after. (session_state.op ≡ after.op) × (IsSome session_state.operation → (server : ℕ) → servers session_state.answered server ≡ counts_on new.sent k after server) × Sits grid t session_state.floor session_state.operation after.floor (option_map (operation_with k after) after.current) in
    let now : P (new.session k) = subst P (sym same) (agrees.op, (λ busy server. agrees.answered busy server ∙ sym (counts server)), agrees.sits) in
    record { op = now.0; answered = now.1; sits = now.2 }

-- the session state of the message's session, from which a server sends a reply; and another one
session_state_answers : (grid : Grid) (t : ℕ) (session_state now : SessionState) (m : Message) (old new : State) (message : OwnMessage) (copy : StoredCopy) → to_server message.body ≡ true → m ≡ message_of t message → SessionStateAnswers session_state now m →
    new.sent ≡ old.sent ++ reply_to copy message ∷ [] → new.session message.session ≡ old.session message.session → SessionStateAgrees grid t message.session session_state old → SessionStateAgrees grid t message.session now new
session_state_answers grid t session_state now m old new message copy goes is answers sent same agrees =
    let k : ℕ = message.session in
    let s : Session = old.session k in
    let C : Option Code → Type 0 = λ code. Sits grid t session_state.floor code s.floor (option_map (operation_with k s) s.current) in
    let one : (code : Code) → session_state.operation ≡ Some code → (server : ℕ) → servers now.answered server ≡ counts_on new.sent k s server = λ code here server.
    let o = its_operation grid t session_state.floor s.floor code k s s.current (subst C here agrees.sits) in
    answers.answered server
    ∙ ap (λ b. b || (is_of session_state.operation m && (m.server == server))) (agrees.answered (rw here refl) server)
    ∙ ap (λ b. counts_on old.sent k s server || b) (
    ap (λ code. is_of code m && (m.server == server)) here
    ∙ ap (λ (l : Message). is_current_as code l && (l.server == server)) is
    ∙ counted_so code s message copy server goes o.2.going o.2.op o.2.round (ap is_some o.1))
    ∙ sym (one_counted old.sent (reply_to copy message) k s server)
    ∙ ap (λ l. counts_on l k s server) (sym sent) in
    let P : Session → Type 0 = λ after. (session_state.op ≡ after.op) × (IsSome session_state.operation → (server : ℕ) → servers now.answered server ≡ counts_on new.sent k after server) × Sits grid t session_state.floor session_state.operation after.floor (option_map (operation_with k after) after.current) in
    let all : P (new.session k) = subst P (sym same) (agrees.op, (λ busy server. let c = some_of session_state.operation busy in one c.0 c.1 server), agrees.sits) in
    record {
      op = answers.op ∙ all.0;
      answered = λ busy server. all.1 (subst (λ o. IsSome o) answers.operation busy) server;
      sits = subst (λ floor. Sits grid t floor now.operation (new.session k).floor (operation new k)) (sym answers.floor) (subst (λ code. Sits grid t session_state.floor code (new.session k).floor (operation new k)) (sym answers.operation) all.2);
    }
  where
    some_of : (o : Option Code) → IsSome o → (code : Code) × (o ≡ Some code)
    some_of None busy = absurd (cc)
    some_of (Some code) busy = (code, refl)

    reply_body : (copy : StoredCopy) (body : Body) → to_server body ≡ true → to_server (answer_body copy body) ≡ false
    reply_body copy Ask is = refl
    reply_body copy (Store other) is = refl
    reply_body copy (Copy other) is = absurd (cc)
    reply_body copy Stored is = absurd (cc)

    turn_eq : (a b : ℕ) → (a == b) ≡ (b == a)
    turn_eq a b = elim (cases_eq a b) [
      | inl same ↦ (eq-eqb a b same ∙ sym (eq-eqb b a (sym same)))
      | inr other ↦ (ne_eqb a b other ∙ sym (ne_eqb b a (λ e. other (sym e))))
    ]

    always : (a : Bool) → (a && true) ≡ a
    always true = refl
    always false = refl

    never : (a : Bool) → (a && false) ≡ false
    never true = refl
    never false = refl

    turned : (a b c d : Bool) → c ≡ d → ((a && b) && c) ≡ (d && (a && b))
    turned a b c true same = rw same (always (a && b))
    turned a b c false same = rw same (never (a && b))

    counted_so : (code : Code) (s : Session) (message : OwnMessage) (copy : StoredCopy) (server : ℕ) → to_server message.body ≡ true → code.done ≡ false → code.who.op ≡ s.op → round_of code.course ≡ s.round → is_some s.current ≡ true →
        (is_current_as code (message_of t message) && (message.server == server)) ≡ counted message.session s server (reply_to copy message)
    counted_so code s message copy server goes going op round busy =
        rw (going, op, round, busy, reply_body copy message.body goes, eq-eqb message.session message.session refl) (turned (message.op == s.op) (message.round == s.round) (message.server == server) (server == message.server) (turn_eq message.server server))

session_state_apart : (grid : Grid) (t k : ℕ) (session_state : SessionState) (old new : State) (message : OwnMessage) (copy : StoredCopy) → new.sent ≡ old.sent ++ reply_to copy message ∷ [] → new.session k ≡ old.session k → message.session ≢ k → SessionStateAgrees grid t k session_state old → SessionStateAgrees grid t k session_state new
session_state_apart grid t k session_state old new message copy sent same other agrees = session_state_same grid t k session_state old new same (λ server.
    ap (λ l. counts_on l k (old.session k) server) sent
    ∙ one_counted old.sent (reply_to copy message) k (old.session k) server
    ∙ ap (λ b. counts_on old.sent k (old.session k) server || b) (not_own (not (to_server (reply_to copy message).body)) (message.session == k) ((server == message.server) && is_awaited (old.session k) (reply_to copy message)) (ne_eqb message.session k other))
    ∙ or-false (counts_on old.sent k (old.session k) server)) agrees

served_own : (w : Tables) (t n : ℕ) (m reply : Message) (store : StoreCopies) (session_states : List SessionState) (known : Known) (message : OwnMessage) → Serves w t n m reply store session_states → Agrees w t known → m ≡ message_of t message → serves known.state.up known.state.lacks message.server message.file ≡ true →
    Agrees (served_tables w t m reply store session_states) t (record known { state = changed (serving n message (length known.state.sent) (held known.state message.server message.file)) known.state })
served_own w t n m reply store session_states known message h agrees is up =
    let state : State = known.state in
    let copy : StoredCopy = held state message.server message.file in
    let new : List OwnMessage = reply_to copy message ∷ [] in
    let goes : to_server message.body ≡ true = ap (λ (x : Message). to_server x.body) (sym is) ∙ h.goes in
    let server : m.server ≡ message.server = ap (λ (x : Message). x.server) is in
    let held_is : copy_at (store_at w.stores m.server) m.file ≡ copy =
    ap (λ (x : Message). copy_at (store_at w.stores m.server) x.file) is ∙ agrees.copies m.server h.server message.file ∙ ap (λ x. held state x message.file) server in
    let reply_is : reply ≡ message_of t (reply_to copy message) = h.reply_is ∙ ap (λ c. server_reply c m) held_is ∙ ap (server_reply copy) is ∙ reply_as t copy message goes in
    let channels_is : with_sent w.channels t (reply ∷ []) ≡ with_sent w.channels t (map (message_of t) new) = ap (λ r. with_sent w.channels t (r ∷ [])) reply_is in
    record {
      lines = agrees.lines;
      up = agrees.up;
      gone = agrees.gone;
      account = agrees.account;
      sent = ap (λ channels. length (channel_at channels t)) channels_is ∙ sent_count w.channels t state new h.channels agrees.sent;
      lost = new_not_lost state new agrees.lost;
      messages = λ k. ap (λ channels. message_at (channel_at channels t) k) channels_is ∙ sent_messages w.channels t state new h.channels agrees.sent agrees.messages agrees.lost k;
      accounts = λ s within. account_stays w t m store s h.stores h.accounts (agrees.accounts s within);
      copies = copies_here w t n m reply store session_states known message h agrees is up;
      lacking = agrees.lacking;
      down = agrees.down;
      session_states = λ place within.
          let after : State = changed (serving n message (length state.sent) copy) state in
          let first = h.first in
          let session : m.session ≡ message.session = ap (λ (x : Message). x.session) is in
          let same : (k : ℕ) → after.session k ≡ state.session k = λ k. no_deed state n (length state.sent) k message copy goes in
          let here : session_states_at (slice_set w.session_states t session_states) t ≡ session_states = get_or-set_same w.session_states t session_states [] h.tenants in
          subst (λ all. SessionStateAgrees w.plan.grid t (place + 1) (session_state_in all place) after) (sym here) (elim (cases_eq place (m.session - 1)) [
            | inl at ↦ (
                let k : place + 1 ≡ message.session = omega arith in
                let old : SessionState = session_state_in (session_states_at w.session_states t) (m.session - 1) in
                let before : SessionStateAgrees w.plan.grid t message.session old state =
                subst (λ j. SessionStateAgrees w.plan.grid t j old state) k (subst (λ q. SessionStateAgrees w.plan.grid t (place + 1) (session_state_in (session_states_at w.session_states t) q) state) at (agrees.session_states place within)) in
                subst (λ j. SessionStateAgrees w.plan.grid t j (session_state_in session_states place) after) (sym k)
                (subst (λ q. SessionStateAgrees w.plan.grid t message.session (session_state_in session_states q) after) (sym at)
                (session_state_answers w.plan.grid t old (session_state_in session_states (m.session - 1)) m state after message copy goes is h.answers refl (same message.session) before)))
            | inr other ↦ (
                let apart : message.session ≢ place + 1 = λ e. other (omega arith) in
                subst (λ (session_state : SessionState). SessionStateAgrees w.plan.grid t (place + 1) session_state after) (sym (h.stays place other))
                (session_state_apart w.plan.grid t (place + 1) (session_state_in (session_states_at w.session_states t) place) state after message copy refl (same (place + 1)) apart (agrees.session_states place within)))
          ]);
    }

served_other : (w : Tables) (t u n : ℕ) (m reply : Message) (store : StoreCopies) (session_states : List SessionState) (known : Known) → u ≢ t → m.file.tenant ≡ t → Serves w t n m reply store session_states → Agrees w u known → Agrees (served_tables w t m reply store session_states) u known
served_other w t u n m reply store session_states known other tenant h agrees =
    let channel : channel_at (with_sent w.channels t (reply ∷ [])) u ≡ channel_at w.channels u = channel_there w.channels t u (reply ∷ []) other in
    record {
      lines = agrees.lines;
      up = agrees.up;
      gone = agrees.gone;
      account = agrees.account;
      sent = ap length channel ∙ agrees.sent;
      lost = agrees.lost;
      messages = λ k. ap (λ l. message_at l k) channel ∙ agrees.messages k;
      accounts = λ s within. account_stays w u m store s h.stores h.accounts (agrees.accounts s within);
      copies = λ s within file. elim (cases_eq s m.server) [
        | inr apart ↦ (ap (λ (x : StoreCopies). copy_at x (file_of u file)) (get_or-set_other w.stores m.server s store no_store apart) ∙ agrees.copies s within file)
        | inl at ↦ (
            let here : store_at (slice_set w.stores m.server store) s ≡ store = ap (store_at (slice_set w.stores m.server store)) at ∙ get_or-set_same w.stores m.server store no_store h.stores in
            let apart : file_of u file ≢ m.file = λ e. other (ap (λ (x : FileId). x.tenant) e ∙ tenant) in
            ap (λ (x : StoreCopies). copy_at x (file_of u file)) here ∙ h.others (file_of u file) apart ∙ ap (λ x. copy_at (store_at w.stores x) (file_of u file)) (sym at) ∙ agrees.copies s within file)
      ];
      lacking = agrees.lacking;
      down = agrees.down;
      session_states = λ place within. subst (λ all. SessionStateAgrees w.plan.grid u (place + 1) (session_state_in all place) known.state) (sym (get_or-set_other w.session_states t u session_states [] other)) (agrees.session_states place within);
    }

pub served_tells : (w : Tables) (t n : ℕ) (m reply : Message) (store : StoreCopies) (session_states : List SessionState) → Serves w t n m reply store session_states → TellsLine w t (Deliver n) (Replied (length (channel_at w.channels t)))
served_tells w t n m reply store session_states h known agrees =
    let f = found w t n m known agrees h.there in
    let message : OwnMessage = f.0 in
    let goes : to_server message.body ≡ true = ap (λ (x : Message). to_server x.body) (sym f.2) ∙ h.goes in
    let server : m.server ≡ message.server = ap (λ (x : Message). x.server) f.2 in
    let up : serves known.state.up known.state.lacks message.server message.file ≡ true = serves_up w t m.server true known message agrees server h.server h.up in
    ap Replied agrees.sent ∙ sym (ap (λ (step : Step). step.told) (serve_is w.plan.grid (row_at w.plan t) known.state n message f.1 goes up))

pub served_acts : (w : Tables) (t n : ℕ) (m reply : Message) (store : StoreCopies) (session_states : List SessionState) → IsReady w t → Serves w t n m reply store session_states → Acts w t (Deliver n) (served_tables w t m reply store session_states)
served_acts w t n m reply store session_states ready h = record {
  plan = refl;
  own = λ known most bounded agrees.
      let f = found w t n m known agrees h.there in
      let message : OwnMessage = f.0 in
      let goes : to_server message.body ≡ true = ap (λ (x : Message). to_server x.body) (sym f.2) ∙ h.goes in
      let server : m.server ≡ message.server = ap (λ (x : Message). x.server) f.2 in
      let up : serves known.state.up known.state.lacks message.server message.file ≡ true = serves_up w t m.server true known message agrees server h.server h.up in
      subst (Agrees (served_tables w t m reply store session_states) t) (sym (served_known w.plan.grid (row_at w.plan t) known n message f.1 goes up))
      (served_own w t n m reply store session_states known message h agrees f.2 up);
  others = λ u other known agrees.
      let f = found w t n m ready.known ready.agrees h.there in
      let tenant : m.file.tenant ≡ t = ap (λ (x : Message). x.file.tenant) f.2 in
      served_other w t u n m reply store session_states known other tenant h agrees;
  servers = refl;
  gone = refl;
}

-- ---- the server is down

pub record IsDownAt (w : Tables) (t n : ℕ) (m : Message) : Type 0 where
  pub there : message_at (channel_at w.channels t) n ≡ Some m
  pub goes : to_server m.body ≡ true
  pub down : servers w.up m.server ≡ false
  pub server : m.server < w.plan.grid.rows * w.plan.grid.cols

pub down_tells : (w : Tables) (t n : ℕ) (m : Message) → IsDownAt w t n m → TellsLine w t (Deliver n) IsDown
down_tells w t n m h known agrees =
    let f = found w t n m known agrees h.there in
    let message : OwnMessage = f.0 in
    let goes : to_server message.body ≡ true = ap (λ (x : Message). to_server x.body) (sym f.2) ∙ h.goes in
    let server : m.server ≡ message.server = ap (λ (x : Message). x.server) f.2 in
    let down : serves known.state.up known.state.lacks message.server message.file ≡ false = serves_up w t m.server false known message agrees server h.server h.down in
    sym (ap (λ (step : Step). step.told) (down_is w.plan.grid (row_at w.plan t) known.state n message f.1 goes down))

-- nothing is brought to a server that does not take it
nothing_brought : (takes : ℕ → File → Bool) (session op round server : ℕ) (file : File) (body : Body) (before : ℕ → File → List StoredCopy) (s : ℕ) (f : File) → takes server file ≡ false →
    stored_by takes (Some (record { session = session; op = op; round = round; server = server; file = file; body = body })) before s f ≡ before s f
nothing_brought takes session op round server file Ask before s f down = refl
nothing_brought takes session op round server file (Copy copy) before s f down = refl
nothing_brought takes session op round server file Stored before s f down = refl
nothing_brought takes session op round server file (Store copy) before s f down = by (server == s) (is_file file f) refl refl
  where
    by : (a b : Bool) → (server == s) ≡ a → is_file file f ≡ b → (if (server == s) && is_file file f && takes s f then before s f ++ copy ∷ [] else before s f) ≡ before s f
    by false b at is = rw at refl
    by true false at is = rw (at, is) refl
    by true true at is =
        let off : takes s f ≡ false = ap (λ n. takes n f) (sym (eqb-true server s at)) ∙ ap (takes server) (sym (same_file file f is)) ∙ down in
        rw (at, is, off) refl

down_own : (w : Tables) (t n : ℕ) (known : Known) (message : OwnMessage) → Agrees w t known → to_server message.body ≡ true → serves known.state.up known.state.lacks message.server message.file ≡ false →
    Agrees w t (record known { state = changed (record { turn = Own (Deliver n); message = Some message; told = IsDown; new = [] }) known.state })
down_own w t n known message agrees goes down =
    let state : State = known.state in
    let nothing : state.sent ++ [] ≡ state.sent = append-nil state.sent in
    record {
      lines = agrees.lines;
      up = agrees.up;
      gone = agrees.gone;
      account = agrees.account;
      sent = agrees.sent ∙ ap length (sym nothing);
      lost = λ k past. agrees.lost k (subst (λ (l : List OwnMessage). length l ≤ k) nothing past);
      messages = λ k. agrees.messages k ∙ ap (λ l. option_map (message_of t) (own_message_at (record state { sent = l }) k)) (sym nothing);
      accounts = agrees.accounts;
      copies = λ s within file. agrees.copies s within file
          ∙ sym (ap (λ copies. greatest (first_copy ∷ copies)) (nothing_brought (serves state.up state.lacks) message.session message.op message.round message.server message.file message.body state.brought s file down));
      lacking = agrees.lacking;
      down = agrees.down;
      session_states = λ place within. session_state_same w.plan.grid t (place + 1) (session_state_in (session_states_at w.session_states t) place) state (changed (record { turn = Own (Deliver n); message = Some message; told = IsDown; new = [] }) state)
          (down_deed state n (place + 1) message goes) (λ server. ap (λ l. counts_on l (place + 1) (state.session (place + 1)) server) nothing) (agrees.session_states place within);
    }
  where
    down_deed : (state : State) (n k : ℕ) (message : OwnMessage) → to_server message.body ≡ true → (changed (record { turn = Own (Deliver n); message = Some message; told = IsDown; new = [] }) state).session k ≡ state.session k
    down_deed state n k message goes = rw goes refl

pub down_acts : (w : Tables) (t n : ℕ) (m : Message) → IsDownAt w t n m → Acts w t (Deliver n) w
down_acts w t n m h = record {
  plan = refl;
  own = λ known most bounded agrees.
      let f = found w t n m known agrees h.there in
      let message : OwnMessage = f.0 in
      let goes : to_server message.body ≡ true = ap (λ (x : Message). to_server x.body) (sym f.2) ∙ h.goes in
      let server : m.server ≡ message.server = ap (λ (x : Message). x.server) f.2 in
      let down : serves known.state.up known.state.lacks message.server message.file ≡ false = serves_up w t m.server false known message agrees server h.server h.down in
      subst (Agrees w t) (sym (down_known w.plan.grid (row_at w.plan t) known n message f.1 goes down)) (down_own w t n known message agrees goes down);
  others = λ u other known agrees. agrees;
  servers = refl;
  gone = refl;
}

-- ---- it is never refused

limit_is : (volumes : List VolumeRow) (file : File) → IsThere volumes file → option_and_then (limit_in file.place) (slice_get volumes file.volume) ≡ Some (room volumes file.volume)
limit_is volumes file there = by (slice_get volumes file.volume) refl
  where
    by : (o : Option VolumeRow) → slice_get volumes file.volume ≡ o → option_and_then (limit_in file.place) (slice_get volumes file.volume) ≡ Some (room volumes file.volume)
    by None is = let h : file.place < 0 = rw is at there in absurd (omega arith)
    by (Some volume) is =
        let h : file.place < volume.files = rw is at there in
        let b : nat_lt file.place volume.files ≡ true = grind (arith, nat_tests) in
        rw (is, b) refl

no_fault : (n limit : ℕ) (body : Body) → BodyFits n limit body → fault_in (Some limit) body ≡ None
no_fault n limit Ask fits = refl
no_fault n limit (Copy copy) fits = refl
no_fault n limit Stored fits = refl
no_fault n limit (Store copy) fits = let long = fits.long in let b : nat_lt limit (length copy.bytes) ≡ false = grind (arith, nat_tests) in rw b refl

-- the file of a message that is not refused is there
pub file_there : (limit : Option ℕ) (body : Body) → fault_in limit body ≡ None → IsSome limit
file_there None body served = absurd (cc)
file_there (Some limit) body served = refl

pub never_refused : (w : Tables) (t n : ℕ) (m : Message) (r : IsReady w t) → message_at (channel_at w.channels t) n ≡ Some m → serve_fault (store_at w.stores m.server) m ≡ None
never_refused w t n m r there =
    let f = found w t n m r.known r.agrees there in
    let message : OwnMessage = f.0 in
    let fits = message_fits w t n m r there in
    let volumes : List VolumeRow = r.known.state.volumes in
    let account : account_at (store_accounts (store_at w.stores m.server)) t ≡ account_of (row_at w.plan t) r.known.state = r.agrees.accounts m.server fits.server ∙ r.agrees.account in
    let tenant : m.file.tenant ≡ t = ap (λ (x : Message). x.file.tenant) f.2 in
    let limit : file_limit (store_at w.stores m.server) m.file ≡ Some (room volumes m.file.volume) =
    ap (λ u. option_and_then (limit_in m.file.file) (slice_get (account_at (store_accounts (store_at w.stores m.server)) u).volumes m.file.volume)) tenant
    ∙ ap (λ (a : Account). option_and_then (limit_in m.file.file) (slice_get a.volumes m.file.volume)) account
    ∙ limit_is volumes (record { volume = m.file.volume; place = m.file.file }) fits.file in
    ap (λ o. fault_in o m.body) limit ∙ no_fault r.before (room volumes m.file.volume) m.body fits.body
