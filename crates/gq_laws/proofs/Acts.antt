-- What each accepted turn does: whose it is, and what follows from it. The one file that looks at how a step is made.
use Rattle.std.proofs.Common.{◌≡◌, ◌≢◌, ◌⊎◌, ℕ, zero, suc, ◌+◌, Bool, true, false, ◌&&◌, List, [], ◌∷◌, length, map, refl, sym, ap, ◌∙◌, subst, inl, inr, Option, Some, None, not, eqb, nat_lt, ◌<◌, arith}
use Rattle.std.specs.Prelude.{Contains, slice_get, slice_index, ⊤, nat_le, if◌then◌else◌}
use Rattle.std.specs.List.{list_any}
use Rattle.std.proofs.lemmas.Bool.{cases_eq, eq-eqb, ne_eqb, eqb-true, and_parts, true≢false, ltb-true, not-false, or_parts}
use Rattle.gq_grid.specs.Grid.{Grid, Servers, Choice}
use Rattle.gq_tag.specs.declared.Tag.{Tag}
use Rattle.gq_tag.specs.declared.StoredCopy.{StoredCopy}
use Rattle.gq_tag.specs.declared.Body.TheVariants.{Ask, Copy, Store, Stored}
use Rattle.gq_tag.specs.Tag.{File, OwnMessage, to_server, answer_body}
use Rattle.gq_desk.specs.declared.plans.TenantRow.{TenantRow}
use Rattle.gq_desk.specs.Volumes.{OpenFault, WrongSize, NoVolumeLeft, OverShare}
use Rattle.gq_desk.specs.Volumes.{open_fault}
use Rattle.gq_phase.specs.Phase.{Task, Writing, Reading, Listing, Operation, Heard, HeardStale, HeardNoted, HeardNext, HeardDone, hear, hear_current, with_reply, is_current, round_quorum, round_messages, messages_to, heard_servers}
use Rattle.gq_phase.specs.declared.Outcome.{Outcome}
use Rattle.gq_phase.specs.Quorums.{are_peers}
use Rattle.gq_model.specs.Trace.{files_of, Past, up_by, gone_by, Turn, Own, Serving, Leaping, Losing, Returning, Entry, is_loss, is_awaited, counts_on, lacks, serves, Trace, Deed, Elsewhere, Begins, Hears, Moves, Ends, Leaps, is_lost, sent, up, gone, task_of, volumes, questions, session, session_by, operation_with, account_of, State}
use Rattle.gq_model.specs.declared.events.Line.{Line}
use Rattle.gq_model.specs.declared.events.ServerLine.{ServerLine}
use Rattle.gq_model.specs.declared.events.ServerLine.TheVariants.{Bad as BadServer, Down, Up, Lost as ServerLost, Repaired as ServerRepaired}
use Rattle.gq_model.specs.declared.events.Line.TheVariants.{Bad, Quorum, NewVolume, Volumes, Write, Read, List as ListFiles, Deliver, Lose, Retry, Abandon}
use Rattle.gq_model.specs.Told.{Told, Opened, Began, Replied, Noted, Round, Done, Resent, Abandoned, Refused, ServerOk, ServerRefused}
use Rattle.gq_model.specs.Lone.{after, said, step_at, entry_of, is_refusal, is_counted, loss_told, equal_copies, return_told, server_refusal, server_done, server_told, choice_told, open_told, lose_told, deliver_step, first_operation, reply_to, Step, Cause, unless, first_cause, session_causes, session_step, line_step, no_session, busy, no_volume, no_quorum}
use Rattle.gq_model.specs.declared.events.Refusal.{Refusal}
use Rattle.gq_model.specs.declared.events.Refusal.TheVariants.{Busy, NoMessage}
use Rattle.gq_model.specs.declared.events.ServerRefusal.{ServerRefusal}
use Rattle.gq_model.specs.declared.events.ServerRefusal.TheVariants.{Same}
use Rattle.gq_laws.proofs.Words.{delivered, message_at, step_on, deed_on, current, op, round, held}
use Rattle.gq_laws.specs.Operations.{session_of}
use Rattle.gq_laws.proofs.Runs.{Follows}
use Rattle.gq_laws.proofs.Found.{contains_at}

-- ---- accepted lines

-- what a line does that is not refused
abbrev pub accepted_step : Grid → TenantRow → State → Line → Step
accepted_step grid row state (Write k v f bytes) = session_step grid state (Write k v f bytes)
accepted_step grid row state (Read k v f) = session_step grid state (Read k v f)
accepted_step grid row state (ListFiles k v) = session_step grid state (ListFiles k v)
accepted_step grid row state (Retry k) = session_step grid state (Retry k)
accepted_step grid row state (Abandon k) = session_step grid state (Abandon k)
accepted_step grid row state line = line_step grid row state line

unless_none : (r : Option Refusal) (s : Step) → is_refusal (unless r s).told ≡ false → unless r s ≡ s
unless_none None s h = refl
unless_none (Some word) s h = absurd (true≢false h)

pub line_is : (grid : Grid) (row : TenantRow) (state : State) (line : Line) → is_refusal (line_step grid row state line).told ≡ false → line_step grid row state line ≡ accepted_step grid row state line
line_is grid row state (Write k v f bytes) h = unless_none (first_cause (session_causes grid row state (Write k v f bytes))) (session_step grid state (Write k v f bytes)) h
line_is grid row state (Read k v f) h = unless_none (first_cause (session_causes grid row state (Read k v f))) (session_step grid state (Read k v f)) h
line_is grid row state (ListFiles k v) h = unless_none (first_cause (session_causes grid row state (ListFiles k v))) (session_step grid state (ListFiles k v)) h
line_is grid row state (Retry k) h = unless_none (first_cause (session_causes grid row state (Retry k))) (session_step grid state (Retry k)) h
line_is grid row state (Abandon k) h = unless_none (first_cause (session_causes grid row state (Abandon k))) (session_step grid state (Abandon k)) h
line_is grid row state line h = refl

-- a line that is not refused is not spent
pub step_line : (grid : Grid) (row : TenantRow) (lines : ℕ) (t : Trace) (line : Line) → is_refusal (step_on grid row lines t (Own line)).told ≡ false →
    step_on grid row lines t (Own line) ≡ line_step grid row (questions t) line
step_line grid row lines t line h = go (nat_le row.steps lines) refl
  where
    go : (b : Bool) → nat_le row.steps lines ≡ b → step_on grid row lines t (Own line) ≡ line_step grid row (questions t) line
    go false e = rw e refl
    go true e = absurd (true≢false (rw e at h))

-- a line that is not refused does what it does when it is accepted
step_own : (grid : Grid) (row : TenantRow) (lines : ℕ) (t : Trace) (line : Line) → is_refusal (step_on grid row lines t (Own line)).told ≡ false →
    step_on grid row lines t (Own line) ≡ accepted_step grid row (questions t) line
step_own grid row lines t line h =
    let same = step_line grid row lines t line h in
    same ∙ line_is grid row (questions t) line (sym (ap (λ s. is_refusal s.told) same) ∙ h)

-- what an accepted line of the tenant says and sends
own_step : (grid : Grid) (row : TenantRow) (t : Trace) (line : Line) (message : Option OwnMessage) (said : Told) (new : List OwnMessage) →
    Follows grid row t (record { turn = Own line; message = message; told = said; new = new }) → accepted_step grid row (questions t) line ≡ record { told = said; new = new }
own_step grid row t line message said new follows =
    let fine : is_refusal (step_on grid row follows.lines t (Own line)).told ≡ false = rw follows.told follows.accepted in
    let goes : step_on grid row follows.lines t (Own line) ≡ accepted_step grid row (questions t) line = step_own grid row follows.lines t line fine in
    sym goes ∙ (λ i. record { told = follows.told i; new = follows.new i })

-- a message that can be delivered was sent
pub message_sent : (t : Trace) (n : ℕ) (l : OwnMessage) → message_at t n ≡ Some l → slice_get (sent t) n ≡ Some l
message_sent t n l h = go (is_lost t n) refl
  where
    go : (b : Bool) → is_lost t n ≡ b → slice_get (sent t) n ≡ Some l
    go true e = absurd (let bad : None ≡ Some l = rw e at h in cc)
    go false e = rw e at h

opened_told : (n : ℕ) (fault : Option OpenFault) → is_refusal (open_told n fault) ≡ false → open_told n fault ≡ Opened n
opened_told n None h = refl
opened_told n (Some WrongSize) h = absurd (true≢false h)
opened_told n (Some NoVolumeLeft) h = absurd (true≢false h)
opened_told n (Some (OverShare free)) h = absurd (true≢false h)

-- a line that opens a volume is told the number of volumes before
pub opens_as : (grid : Grid) (row : TenantRow) (t : Trace) (turn : Turn) (message : Option OwnMessage) (w : Told) (new : List OwnMessage) → Follows grid row t (record { turn = turn; message = message; told = w; new = new }) → (files blocks : ℕ) → turn ≡ Own (NewVolume files blocks) → w ≡ Opened (length (volumes t))
opens_as grid row t turn message w new follows files blocks is =
    let P : Turn → Type 0 = λ z. Follows grid row t (record { turn = z; message = message; told = w; new = new }) in
    let fault : Option OpenFault = open_fault (account_of row (questions t)) (record { files = files; blocks = blocks }) in
    let same : open_told (length (volumes t)) fault ≡ w = ap (λ s. s.told) (own_step grid row t (NewVolume files blocks) message w new (subst P is follows)) in
    sym same ∙ opened_told (length (volumes t)) fault (ap is_refusal same ∙ follows.accepted)

third_fails : (a b c : Cause) (rest : List Cause) → first_cause (a ∷ b ∷ c ∷ rest) ≡ None → c.0 ≡ false
third_fails a b c rest h = go a.0 refl b.0 refl c.0 refl
  where
    go : (x : Bool) → a.0 ≡ x → (y : Bool) → b.0 ≡ y → (z : Bool) → c.0 ≡ z → c.0 ≡ false
    go x e y f false g = g
    go true e y f true g = absurd (let bad : Some a.1 ≡ None = rw e at h in cc)
    go false e true f true g = absurd (let bad : Some b.1 ≡ None = rw (e, f) at h in cc)
    go false e false f true g = absurd (let bad : Some c.1 ≡ None = rw (e, f, g) at h in cc)

pub no_cause : (r : Option Refusal) (s : Step) → is_refusal (unless r s).told ≡ false → r ≡ None
no_cause None s h = refl
no_cause (Some word) s h = absurd (true≢false h)

-- a listing that is accepted is of a volume that was opened
pub listed_volume : (grid : Grid) (row : TenantRow) (lines : ℕ) (t : Trace) (k v : ℕ) → is_refusal (step_on grid row lines t (Own (ListFiles k v))).told ≡ false → v < length (volumes t)
listed_volume grid row lines t k v h =
    let same = step_line grid row lines t (ListFiles k v) h in
    let state : State = questions t in
    let none : first_cause (session_causes grid row state (ListFiles k v)) ≡ None = no_cause _ (session_step grid state (ListFiles k v)) (ap (λ s. is_refusal s.told) (sym same) ∙ h) in
    let there = third_fails (no_session row k) (busy state k) (no_volume state v) (no_quorum grid state 1 ∷ []) none in
    ltb-true v (length (volumes t)) (not-false (nat_lt v (length (volumes t))) there)

-- the entry of an accepted line of the tenant
abbrev pub own_entry : Grid → TenantRow → Trace → Line → Entry
own_entry grid row t line = record { turn = Own line; message = delivered t (Own line); told = (accepted_step grid row (questions t) line).told; new = (accepted_step grid row (questions t) line).new }

-- an accepted line leaves that entry
pub is_own_entry : (grid : Grid) (row : TenantRow) (t : Trace) (line : Line) (message : Option OwnMessage) (said : Told) (new : List OwnMessage) →
    Follows grid row t (record { turn = Own line; message = message; told = said; new = new }) → own_entry grid row t line ≡ record { turn = Own line; message = message; told = said; new = new }
is_own_entry grid row t line message said new follows =
    let is = own_step grid row t line message said new follows in
    λ i. record { turn = Own line; message = sym follows.message i; told = (is i).told; new = (is i).new }

-- the entry of a delivery of this message
abbrev pub deliver_entry : Grid → Trace → ℕ → Option OwnMessage → Entry
deliver_entry grid t n message = record { turn = Own (Deliver n); message = message; told = (deliver_step grid (questions t) message).told; new = (deliver_step grid (questions t) message).new }

-- ---- what they do

-- the sessions of messages
abbrev pub sessions : List OwnMessage → List ℕ
sessions messages = map (λ m. m.session) messages

-- the operation that a request begins
abbrev pub first_round : Trace → ℕ → Task → Operation
first_round t k task = first_operation (questions t) k task

-- session k's operation as it stands
abbrev pub going : Trace → ℕ → Task → Operation
going t k task = operation_with k (session t k) task

-- the message that a server sends back
abbrev pub back : Trace → OwnMessage → OwnMessage
back t l = reply_to (held t l.server l.file) l

pub back_to_ask : (t : Trace) (l : OwnMessage) → l.body ≡ Ask → (back t l).body ≡ Copy (held t l.server l.file)
back_to_ask t l is = ap (answer_body (held t l.server l.file)) is

pub back_to_store : (t : Trace) (l : OwnMessage) (c : StoredCopy) → l.body ≡ Store c → (back t l).body ≡ Stored
back_to_store t l c is = ap (answer_body (held t l.server l.file)) is

-- the answers that tell no operation anything
abbrev pub IsPassive : Told → Type 0
IsPassive (Began op first count) = ⊥
IsPassive (Replied number) = ⊥
IsPassive Noted = ⊥
IsPassive (Round round tag first count) = ⊥
IsPassive (Done outcome) = ⊥
IsPassive (Resent first count) = ⊥
IsPassive Abandoned = ⊥
IsPassive _ = ⊤

-- the message is a reply of session k's operation and round
pub record Comes (t : Trace) (k : ℕ) (l : OwnMessage) (task : Task) : Type 0 where
  pub inside : Contains (sent t) l
  pub its : l.session ≡ k
  pub reply : to_server l.body ≡ false
  pub busy : current t k ≡ Some task
  pub same_op : l.op ≡ op t k
  pub same_round : l.round ≡ round t k

-- what an entry does in session k
pub data Doing (grid : Grid) (t : Trace) (e : Entry) (k : ℕ) : Type 0 where
  Requests : (line : Line) (task : Task) (first : ℕ) → e.turn ≡ Own line → task_of (volumes t) line ≡ Some task → deed_on t k e ≡ Begins line → e.told ≡ Began (op t k + 1) first (length e.new) → e.new ≡ round_messages grid (up t) (first_round t k task) → Doing grid t e k
  Serves : (l : OwnMessage) (n : ℕ) → Contains (sent t) l → l.session ≡ k → to_server l.body ≡ true → serves (up t) (lacks t) l.server l.file ≡ true → e.message ≡ Some l → deed_on t k e ≡ Elsewhere → e.told ≡ Replied n → e.new ≡ back t l ∷ [] → Doing grid t e k
  Notes : (l : OwnMessage) (task : Task) → Comes t k l task → deed_on t k e ≡ Hears l → e.told ≡ Noted → e.new ≡ [] → Doing grid t e k
  Turns : (l : OwnMessage) (task : Task) (r : ℕ) (tag : Option Tag) (first : ℕ) → Comes t k l task → e.message ≡ Some l → deed_on t k e ≡ Moves l r tag → e.told ≡ Round r tag first (length e.new) → hear_current grid (up t) (with_reply (going t k task) l) ≡ HeardNext r tag e.new → Doing grid t e k
  Finishes : (l : OwnMessage) (task : Task) (outcome : Outcome) → Comes t k l task → deed_on t k e ≡ Ends → e.told ≡ Done outcome → e.new ≡ [] → hear_current grid (up t) (with_reply (going t k task) l) ≡ HeardDone outcome → Doing grid t e k
  Resends : (task : Task) (set : Servers) (first : ℕ) → current t k ≡ Some task → deed_on t k e ≡ Elsewhere → e.told ≡ Resent first (length e.new) → e.new ≡ messages_to grid (going t k task) set → Doing grid t e k
  Abandons : deed_on t k e ≡ Ends → e.told ≡ Abandoned → e.new ≡ [] → Doing grid t e k
  -- a server is lost on which the operation counts
  GivesUp : deed_on t k e ≡ Ends → IsPassive e.told → e.new ≡ [] → Doing grid t e k
  Jumps : (last number : ℕ) → current t k ≡ None → deed_on t k e ≡ Leaps last number → IsPassive e.told → e.new ≡ [] → Doing grid t e k
  Silent : deed_on t k e ≡ Elsewhere → IsPassive e.told → e.new ≡ [] → Doing grid t e k

-- the session that the turn is about, and what it does there; in others it does nothing, or gives their operations up
pub record Act (grid : Grid) (t : Trace) (e : Entry) : Type 0 where
  pub k : ℕ
  pub about : session_of (sessions (sent t)) e.turn ≡ k
  pub others : (s : ℕ) → k ≢ s → (deed_on t s e ≡ Elsewhere) ⊎ (deed_on t s e ≡ Ends)
  pub what : Doing grid t e k

-- ---- what no turn takes

-- a test that fails of all fails of each
none_passes : (p : OwnMessage → Bool) (ms : List OwnMessage) (m : OwnMessage) → list_any p ms ≡ false → Contains ms m → p m ≡ false
none_passes p [] m none within = absurd (omega (arith, within.1))
none_passes p (x ∷ ms) m none (zero, low, is) = let P : OwnMessage → Type 0 = λ z. p z ≡ false in subst P is (or_parts (p x) (list_any p ms) none).0
none_passes p (x ∷ ms) m none (suc i, low, is) = none_passes p ms m (or_parts (p x) (list_any p ms) none).1 (i, omega arith, is)

-- what neither does nothing nor ends an operation is no deed of another session
pub aside_stays : {d : Deed} → (d ≡ Elsewhere) ⊎ (d ≡ Ends) → (d ≡ Elsewhere → ⊥) → (d ≡ Ends → ⊥) → ⊥
aside_stays (inl is) nothing over = nothing is
aside_stays (inr is) nothing over = over is

-- no copy is lost at a server of which a reply of session k's operation and round was sent, where the operation goes on
pub awaited_kept : (grid : Grid) (row : TenantRow) (t : Trace) (e : Entry) (k : ℕ) (l : OwnMessage) (task next : Task) → Follows grid row t e → Comes t k l task → current (e ∷ t) k ≡ Some next → is_loss e.turn l.server l.file ≡ false
awaited_kept grid row t e k l task next follows comes goes_on = go e.turn e.message e.told e.new follows goes_on
  where
    uncounted : (b : Bool) → b && true ≡ false → b ≡ false
    uncounted true h = h
    uncounted false h = refl

    -- the session of the reply awaits it
    awaited : is_awaited (session t l.session) l ≡ true
    awaited =
        let busy_there : current t l.session ≡ Some task = ap (current t) comes.its ∙ comes.busy in
        let same_op : l.op ≡ op t l.session = comes.same_op ∙ ap (op t) (sym comes.its) in
        let same_round : l.round ≡ round t l.session = comes.same_round ∙ ap (round t) (sym comes.its) in
        rw (busy_there, eq-eqb l.op (op t l.session) same_op, eq-eqb l.round (round t l.session) same_round) refl

    by : (turn : Turn) (said : Told) → loss_told (questions t) turn ≡ said → is_refusal said ≡ false → (b : Bool) → list_any (is_counted (questions t) turn) (sent t) ≡ b → is_loss turn l.server l.file ≡ false
    by turn said told fine true found = absurd (let is : Refused Busy ≡ said = rw found at told in true≢false (ap is_refusal is ∙ fine))
    by turn said told fine false none =
        let not_counted : is_counted (questions t) turn l ≡ false = none_passes (is_counted (questions t) turn) (sent t) l none comes.inside in
        uncounted (is_loss turn l.server l.file) (rw (comes.reply, awaited) at not_counted)

    -- the operation would not go on if a server were lost on which it counts
    at_loss : (n : ℕ) (b : Bool) → counts_on (sent t) k (session t k) n ≡ b → (session_by (volumes t) k (if b then Ends else Elsewhere) (session t k)).current ≡ Some next → eqb n l.server ≡ false
    at_loss n true counts goes_on = absurd (let bad : None ≡ Some next = goes_on in cc)
    at_loss n false none goes_on =
        let P : ℕ → Type 0 = λ z. is_awaited (session t z) l ≡ true in
        let here : is_awaited (session t k) l ≡ true = subst P comes.its awaited in
        let not_counted : (not (to_server l.body) && (eqb l.session k && (eqb n l.server && is_awaited (session t k) l))) ≡ false = none_passes _ (sent t) l none comes.inside in
        uncounted (eqb n l.server) (rw (comes.reply, eq-eqb l.session k comes.its, here) at not_counted)

    go : (turn : Turn) (message : Option OwnMessage) (said : Told) (new : List OwnMessage) → Follows grid row t (record { turn = turn; message = message; told = said; new = new }) →
        current (record { turn = turn; message = message; told = said; new = new } ∷ t) k ≡ Some next → is_loss turn l.server l.file ≡ false
    go (Losing s volumes) message said new f goes_on = by (Losing s volumes) said f.told f.accepted (list_any (is_counted (questions t) (Losing s volumes)) (sent t)) refl
    go (Serving (ServerLost n)) message said new f goes_on = at_loss n (counts_on (sent t) k (session t k) n) refl goes_on
    go (Serving (ServerRepaired n)) message said new f goes_on = refl
    go (Serving (Down n)) message said new f goes_on = refl
    go (Serving (Up n)) message said new f goes_on = refl
    go (Serving BadServer) message said new f goes_on = refl
    go (Own line) message said new f goes_on = refl
    go (Leaping s last number) message said new f goes_on = refl
    go (Returning s file peer copy) message said new f goes_on = refl

-- an entry that delivers a message is of a line that does
pub delivers_by : (grid : Grid) (row : TenantRow) (t : Trace) (turn : Turn) (message : Option OwnMessage) (l : OwnMessage) → message ≡ delivered t turn → message ≡ Some l → (n : ℕ) × (turn ≡ Own (Deliver n))
delivers_by grid row t (Own (Deliver n)) message l comes is = (n, refl)
delivers_by grid row t _ message l comes is = absurd (let bad : None ≡ Some l = sym comes ∙ is in cc)

session_at : (ms : List OwnMessage) (n : ℕ) (l : OwnMessage) → slice_get ms n ≡ Some l → slice_index (sessions ms) n ≡ l.session
session_at [] n l h = absurd (let bad : None ≡ Some l = h in cc)
session_at (m ∷ ms) zero l h = let same : m ≡ l = cc in ap (λ x. x.session) same
session_at (m ∷ ms) (suc n) l h = session_at ms n l h

deliver_about : (t : Trace) (n : ℕ) (l : OwnMessage) → message_at t n ≡ Some l → session_of (sessions (sent t)) (Own (Deliver n)) ≡ l.session
deliver_about t n l found = session_at (sent t) n l (message_sent t n l found)

deliver_act : (grid : Grid) (t : Trace) (n : ℕ) (message : Option OwnMessage) → message_at t n ≡ message → Act grid t (deliver_entry grid t n message)
deliver_act grid t n None found = record { k = slice_index (sessions (sent t)) n; about = refl; others = λ s ne. inl refl; what = Silent refl tt refl }
deliver_act grid t n (Some l) found = go (to_server l.body) refl
  where
    x : Entry
    x = deliver_entry grid t n (Some l)

    within : Contains (sent t) l
    within = contains_at (sent t) n l (message_sent t n l found)

    served : to_server l.body ≡ true → (b : Bool) → serves (up t) (lacks t) l.server l.file ≡ b → Doing grid t x l.session
    served e true is = Serves l (length (sent t)) within refl e is refl (rw e) (rw (e, is)) (rw (e, is))
    served e false is = Silent (rw e) (rw (e, is) tt) (rw (e, is))

    comes : to_server l.body ≡ false → (task : Task) → current t l.session ≡ Some task → is_current (going t l.session task) l ≡ true → Comes t l.session l task
    comes e task busy cur =
        let parts = and_parts (eqb l.op (op t l.session)) (eqb l.round (round t l.session)) cur in
        record { inside = within; its = refl; reply = e; busy = busy; same_op = eqb-true l.op (op t l.session) parts.0; same_round = eqb-true l.round (round t l.session) parts.1 }

    by : to_server l.body ≡ false → (task : Task) → current t l.session ≡ Some task → (c : Bool) → is_current (going t l.session task) l ≡ c → (h : Heard) → hear grid (up t) (going t l.session task) l ≡ h → Doing grid t x l.session
    by e task busy c cur HeardStale is = Silent (rw (e, eq-eqb l.session l.session refl, busy, is)) (rw (e, busy, is) tt) (rw (e, busy, is))
    by e task busy false cur HeardNoted is = absurd (let bad : HeardStale ≡ HeardNoted = rw cur at is in cc)
    by e task busy false cur (HeardNext r tag messages) is = absurd (let bad : HeardStale ≡ HeardNext r tag messages = rw cur at is in cc)
    by e task busy false cur (HeardDone outcome) is = absurd (let bad : HeardStale ≡ HeardDone outcome = rw cur at is in cc)
    by e task busy true cur HeardNoted is = Notes l task (comes e task busy cur) (rw (e, eq-eqb l.session l.session refl, busy, is)) (rw (e, busy, is)) (rw (e, busy, is))
    by e task busy true cur (HeardNext r tag messages) is = Turns l task r tag (length (sent t)) (comes e task busy cur) refl (rw (e, eq-eqb l.session l.session refl, busy, is)) (rw (e, busy, is)) (rw (e, busy, is) (rw cur at is))
    by e task busy true cur (HeardDone outcome) is = Finishes l task outcome (comes e task busy cur) (rw (e, eq-eqb l.session l.session refl, busy, is)) (rw (e, busy, is)) (rw (e, busy, is)) (rw cur at is)

    in_session : to_server l.body ≡ false → (task : Option Task) → current t l.session ≡ task → Doing grid t x l.session
    in_session e None idle = Silent (rw (e, eq-eqb l.session l.session refl, idle)) (rw (e, idle) tt) (rw (e, idle))
    in_session e (Some task) busy = by e task busy (is_current (going t l.session task) l) refl (hear grid (up t) (going t l.session task) l) refl

    go : (b : Bool) → to_server l.body ≡ b → Act grid t x
    go true e = record { k = l.session; about = deliver_about t n l found; others = λ s ne. inl (rw e); what = served e (serves (up t) (lacks t) l.server l.file) refl }
    go false e = record { k = l.session; about = deliver_about t n l found; others = λ s ne. inl (rw (e, ne_eqb l.session s ne)); what = in_session e (current t l.session) refl }

retry_act : (grid : Grid) (row : TenantRow) (t : Trace) (k : ℕ) → Doing grid t (own_entry grid row t (Retry k)) k
retry_act grid row t k = go (current t k) refl
  where
    sent_by : (task : Task) → current t k ≡ Some task → (q : Option Servers) → round_quorum grid (up t) (round t k) ≡ q → Doing grid t (own_entry grid row t (Retry k)) k
    sent_by task busy None none = Silent refl (rw (busy, none) tt) (rw (busy, none))
    sent_by task busy (Some quorum) some = Resends task (λ server. quorum server && not (heard_servers (going t k task).heard server)) (length (sent t)) busy refl (rw (busy, some)) (rw (busy, some))

    go : (task : Option Task) → current t k ≡ task → Doing grid t (own_entry grid row t (Retry k)) k
    go None idle = Silent refl (rw idle tt) (rw idle)
    go (Some task) busy = sent_by task busy (round_quorum grid (up t) (round t k)) refl

choice_passive : (grid : Grid) (choice : Option Choice) → IsPassive (choice_told grid choice)
choice_passive grid None = tt
choice_passive grid (Some choice) = tt

open_passive : (n : ℕ) (fault : Option OpenFault) → IsPassive (open_told n fault)
open_passive n None = tt
open_passive n (Some WrongSize) = tt
open_passive n (Some NoVolumeLeft) = tt
open_passive n (Some (OverShare free)) = tt

lose_passive : (message : Option OwnMessage) → IsPassive (lose_told message)
lose_passive None = tt
lose_passive (Some message) = tt

-- what each accepted line of the tenant does
own_act : (grid : Grid) (row : TenantRow) (t : Trace) (line : Line) → Act grid t (own_entry grid row t line)
own_act grid row t (Deliver n) = deliver_act grid t n (message_at t n) refl
own_act grid row t (Write k v f bytes) = record { k = k; about = refl; others = λ s ne. inl (rw (ne_eqb k s ne)); what = Requests (Write k v f bytes) (Writing (record { volume = v; place = f }) bytes) (length (sent t)) refl refl (rw (eq-eqb k k refl)) refl refl }
own_act grid row t (Read k v f) = record { k = k; about = refl; others = λ s ne. inl (rw (ne_eqb k s ne)); what = Requests (Read k v f) (Reading (record { volume = v; place = f })) (length (sent t)) refl refl (rw (eq-eqb k k refl)) refl refl }
own_act grid row t (ListFiles k v) = record { k = k; about = refl; others = λ s ne. inl (rw (ne_eqb k s ne)); what = Requests (ListFiles k v) (Listing v (files_of (volumes t) v)) (length (sent t)) refl refl (rw (eq-eqb k k refl)) refl refl }
own_act grid row t (Retry k) = record { k = k; about = refl; others = λ s ne. inl refl; what = retry_act grid row t k }
own_act grid row t (Abandon k) = record { k = k; about = refl; others = λ s ne. inl (rw (ne_eqb k s ne)); what = Abandons (rw (eq-eqb k k refl)) refl refl }
own_act grid row t Quorum = record { k = 0; about = refl; others = λ s ne. inl refl; what = Silent refl (choice_passive grid _) refl }
own_act grid row t Bad = record { k = 0; about = refl; others = λ s ne. inl refl; what = Silent refl tt refl }
own_act grid row t (NewVolume files blocks) = record { k = 0; about = refl; others = λ s ne. inl refl; what = Silent refl (open_passive (length (volumes t)) (open_fault (account_of row (questions t)) (record { files = files; blocks = blocks }))) refl }
own_act grid row t Volumes = record { k = 0; about = refl; others = λ s ne. inl refl; what = Silent refl tt refl }
own_act grid row t (Lose n) = record { k = 0; about = refl; others = λ s ne. inl refl; what = Silent refl (lose_passive (message_at t n)) refl }

done_passive : (grid : Grid) (up : Servers) (line : ServerLine) → IsPassive (server_done grid up line)
done_passive grid up (ServerRepaired n) = tt
done_passive grid up (ServerLost n) = tt
done_passive grid up (Down n) = tt
done_passive grid up (Up n) = tt
done_passive grid up BadServer = tt

server_said : (grid : Grid) (up gone : Servers) (line : ServerLine) → IsPassive (server_told grid up gone line)
server_said grid up gone line = go (server_refusal grid up gone line) refl
  where
    go : (r : Option ServerRefusal) → server_refusal grid up gone line ≡ r → IsPassive (server_told grid up gone line)
    go None e = rw e (done_passive grid up line)
    go (Some word) e = rw e tt

-- a leap, of a session that has no operation
leap_act : (grid : Grid) (row : TenantRow) (t : Trace) (k last number : ℕ) (message : Option OwnMessage) (said : Told) (new : List OwnMessage) → Follows grid row t (record { turn = Leaping k last number; message = message; told = said; new = new }) →
    Act grid t (record { turn = Leaping k last number; message = message; told = said; new = new })
leap_act grid row t k last number message said new f = by (current t k) refl
  where
    P : Told → Type 0
    P z = IsPassive z

    by : (task : Option Task) → current t k ≡ task → Act grid t (record { turn = Leaping k last number; message = message; told = said; new = new })
    by None idle =
        let told = f.told in
        let is : ServerOk ≡ said = rw idle at told in
        record { k = k; about = refl; others = λ s ne. inl (rw (ne_eqb k s ne)); what = Jumps last number idle (rw (eq-eqb k k refl)) (subst P is tt) (sym f.new) }
    by (Some task) busy =
        let told = f.told in
        let is : Refused Busy ≡ said = rw busy at told in
        absurd (true≢false (ap is_refusal is ∙ f.accepted))

-- a turn that is told what no session is told, and sends nothing
silent_act : (grid : Grid) (row : TenantRow) (t : Trace) (turn : Turn) (message : Option OwnMessage) (said : Told) (new : List OwnMessage) → ((s : ℕ) → deed_on t s (record { turn = turn; message = message; told = said; new = new }) ≡ Elsewhere) → session_of (sessions (sent t)) turn ≡ 0 → IsPassive said → [] ≡ new →
    Act grid t (record { turn = turn; message = message; told = said; new = new })
silent_act grid row t turn message said new none about passive is = record { k = 0; about = about; others = λ s ne. inl (none s); what = Silent (none 0) passive (sym is) }

loss_passive : (state : State) (turn : Turn) → IsPassive (loss_told state turn)
loss_passive state turn = by (list_any (is_counted state turn) state.sent)
  where
    by : (b : Bool) → IsPassive (if b then Refused Busy else ServerOk)
    by true = tt
    by false = tt

return_passive : (grid : Grid) (state : State) (server : ℕ) (file : File) (peer : ℕ) (copy : StoredCopy) → IsPassive (return_told grid state server file peer copy)
return_passive grid state server file peer copy = by (not (state.lacks server file)) (are_peers grid server peer && list_any (equal_copies copy) (state.offered server file peer))
  where
    by : (b c : Bool) → IsPassive (if b then ServerRefused Same else if c then ServerOk else Refused NoMessage)
    by true c = tt
    by false true = tt
    by false false = tt

-- a server line that loses no server
serving_act : (grid : Grid) (row : TenantRow) (t : Trace) (line : ServerLine) (message : Option OwnMessage) (said : Told) (new : List OwnMessage) → ((s : ℕ) → deed_on t s (record { turn = Serving line; message = message; told = said; new = new }) ≡ Elsewhere) →
    Follows grid row t (record { turn = Serving line; message = message; told = said; new = new }) → Act grid t (record { turn = Serving line; message = message; told = said; new = new })
serving_act grid row t line message said new none f =
    let P : Told → Type 0 = λ x. IsPassive x in
    silent_act grid row t (Serving line) message said new none refl (subst P f.told (server_said grid (up t) (gone t) line)) f.new

-- one that does
lost_act : (grid : Grid) (row : TenantRow) (t : Trace) (n : ℕ) (message : Option OwnMessage) (said : Told) (new : List OwnMessage) → Follows grid row t (record { turn = Serving (ServerLost n); message = message; told = said; new = new }) →
    Act grid t (record { turn = Serving (ServerLost n); message = message; told = said; new = new })
lost_act grid row t n message said new f = record { k = 0; about = refl; others = λ s ne. either (counts_on (sent t) s (session t s) n); what = by (either (counts_on (sent t) 0 (session t 0) n)) }
  where
    e : Entry
    e = record { turn = Serving (ServerLost n); message = message; told = said; new = new }

    either : (b : Bool) → ((if b then Ends else Elsewhere) ≡ Elsewhere) ⊎ ((if b then Ends else Elsewhere) ≡ Ends)
    either true = inr refl
    either false = inl refl

    passive : IsPassive said
    passive = let P : Told → Type 0 = λ x. IsPassive x in subst P f.told (server_said grid (up t) (gone t) (ServerLost n))

    by : (deed_on t 0 e ≡ Elsewhere) ⊎ (deed_on t 0 e ≡ Ends) → Doing grid t e 0
    by (inl is) = Silent is passive (sym f.new)
    by (inr is) = GivesUp is passive (sym f.new)

-- and what each entry of a run does
pub act : (grid : Grid) (row : TenantRow) (t : Trace) (e : Entry) → Follows grid row t e → Act grid t e
act grid row t e follows = go e.turn e.message e.told e.new follows
  where
    go : (turn : Turn) (message : Option OwnMessage) (said : Told) (new : List OwnMessage) → Follows grid row t (record { turn = turn; message = message; told = said; new = new }) → Act grid t (record { turn = turn; message = message; told = said; new = new })
    go (Own line) message said new f = let P : Entry → Type 0 = λ x. Act grid t x in subst P (is_own_entry grid row t line message said new f) (own_act grid row t line)
    go (Serving (ServerLost n)) message said new f = lost_act grid row t n message said new f
    go (Serving (ServerRepaired n)) message said new f = serving_act grid row t (ServerRepaired n) message said new (λ s. refl) f
    go (Serving (Down n)) message said new f = serving_act grid row t (Down n) message said new (λ s. refl) f
    go (Serving (Up n)) message said new f = serving_act grid row t (Up n) message said new (λ s. refl) f
    go (Serving BadServer) message said new f = serving_act grid row t BadServer message said new (λ s. refl) f
    go (Leaping k last number) message said new f = leap_act grid row t k last number message said new f
    go (Losing s volumes) message said new f =
        let P : Told → Type 0 = λ x. IsPassive x in
        silent_act grid row t (Losing s volumes) message said new (λ k. refl) refl (subst P f.told (loss_passive (questions t) (Losing s volumes))) f.new
    go (Returning s file peer copy) message said new f =
        let P : Told → Type 0 = λ x. IsPassive x in
        silent_act grid row t (Returning s file peer copy) message said new (λ k. refl) refl (subst P f.told (return_passive grid (questions t) s file peer copy)) f.new

-- the reply with which a round of session k ends
pub record Turning (grid : Grid) (t : Trace) (e : Entry) (k r : ℕ) (tag : Option Tag) : Type 0 where
  pub l : OwnMessage
  pub task : Task
  pub comes : Comes t k l task
  pub heard : hear_current grid (up t) (with_reply (going t k task) l) ≡ HeardNext r tag e.new

pub turning : (grid : Grid) (t : Trace) (e : Entry) (k : ℕ) (m : OwnMessage) (r : ℕ) (tag : Option Tag) → Act grid t e → deed_on t k e ≡ Moves m r tag → Turning grid t e k r tag
turning grid t e k m r tag a does = go (cases_eq a.k k)
  where
    by : Doing grid t e k → Turning grid t e k r tag
    by (Requests line task first turn asks is said new) = absurd (let bad : Begins line ≡ Moves m r tag = sym is ∙ does in cc)
    by (Serves l w within its to alive message is said new) = absurd (let bad : Elsewhere ≡ Moves m r tag = sym is ∙ does in cc)
    by (Notes l task comes is said new) = absurd (let bad : Hears l ≡ Moves m r tag = sym is ∙ does in cc)
    by (Turns l task r' tag' first comes message is said heard) =
        let both : Moves l r' tag' ≡ Moves m r tag = sym is ∙ does in
        let rounds : r' ≡ r = cc in
        let tags : tag' ≡ tag = cc in
        record { l = l; task = task; comes = comes; heard = heard ∙ ap (λ z. HeardNext z tag' e.new) rounds ∙ ap (λ z. HeardNext r z e.new) tags }
    by (Finishes l task outcome comes is said new heard) = absurd (let bad : Ends ≡ Moves m r tag = sym is ∙ does in cc)
    by (Resends task set first busy is said new) = absurd (let bad : Elsewhere ≡ Moves m r tag = sym is ∙ does in cc)
    by (Abandons is said new) = absurd (let bad : Ends ≡ Moves m r tag = sym is ∙ does in cc)
    by (GivesUp is passive new) = absurd (let bad : Ends ≡ Moves m r tag = sym is ∙ does in cc)
    by (Jumps last number idle is passive new) = absurd (let bad : Leaps last number ≡ Moves m r tag = sym is ∙ does in cc)
    by (Silent is passive new) = absurd (let bad : Elsewhere ≡ Moves m r tag = sym is ∙ does in cc)

    go : (a.k ≡ k) ⊎ (a.k ≢ k) → Turning grid t e k r tag
    go (inl same) = let P : ℕ → Type 0 = λ z. Doing grid t e z in by (subst P same a.what)
    go (inr ne) = absurd (aside_stays (a.others k ne) (λ is. let bad : Elsewhere ≡ Moves m r tag = sym is ∙ does in cc) (λ is. let bad : Ends ≡ Moves m r tag = sym is ∙ does in cc))

-- ---- server lines

-- the same servers are up, and the same are gone
pub record SameServers (t also : Trace) : Type 0 where
  pub up : up t ≡ up also
  pub gone : gone t ≡ gone also

-- a line of the tenant leaves the servers as they are
pub servers_own : (grid : Grid) (row : TenantRow) (p : Past) (line : Line) → SameServers (after grid row p (Own line)).trace p.trace
servers_own grid row p line = by (is_refusal (step_at grid row p (Own line)).told)
  where
    by : (b : Bool) → SameServers (if b then p.trace else entry_of (questions p.trace) (Own line) (step_at grid row p (Own line)) ∷ p.trace) p.trace
    by true = record { up = refl; gone = refl }
    by false = record { up = refl; gone = refl }

-- the servers that are up after a server line, and those that are gone, where these were up and these gone
abbrev pub next_up : Grid → Servers → Servers → ServerLine → Servers
next_up grid up gone line = if is_refusal (server_told grid up gone line) then up else up_by (Serving line) up

abbrev pub next_gone : Grid → Servers → Servers → ServerLine → Servers
next_gone grid up gone line = if is_refusal (server_told grid up gone line) then gone else gone_by (Serving line) gone

pub next_up_is : (grid : Grid) (row : TenantRow) (p : Past) (line : ServerLine) → up (after grid row p (Serving line)).trace ≡ next_up grid (up p.trace) (gone p.trace) line
next_up_is grid row p line = by (is_refusal (server_told grid (up p.trace) (gone p.trace) line))
  where
    by : (b : Bool) → up (if b then p.trace else entry_of (questions p.trace) (Serving line) (step_at grid row p (Serving line)) ∷ p.trace) ≡ (if b then up p.trace else up_by (Serving line) (up p.trace))
    by true = refl
    by false = refl

pub next_gone_is : (grid : Grid) (row : TenantRow) (p : Past) (line : ServerLine) → gone (after grid row p (Serving line)).trace ≡ next_gone grid (up p.trace) (gone p.trace) line
next_gone_is grid row p line = by (is_refusal (server_told grid (up p.trace) (gone p.trace) line))
  where
    by : (b : Bool) → gone (if b then p.trace else entry_of (questions p.trace) (Serving line) (step_at grid row p (Serving line)) ∷ p.trace) ≡ (if b then gone p.trace else gone_by (Serving line) (gone p.trace))
    by true = refl
    by false = refl

-- what a server line changes, and is told, depends on the servers alone
pub servers_serving : (grid : Grid) (row other : TenantRow) (p q : Past) (line : ServerLine) → SameServers p.trace q.trace → SameServers (after grid row p (Serving line)).trace (after grid other q (Serving line)).trace
servers_serving grid row other p q line same = record {
  up = next_up_is grid row p line ∙ (λ i. next_up grid (same.up i) (same.gone i) line) ∙ sym (next_up_is grid other q line);
  gone = next_gone_is grid row p line ∙ (λ i. next_gone grid (same.up i) (same.gone i) line) ∙ sym (next_gone_is grid other q line);
}

pub said_serving : (grid : Grid) (row other : TenantRow) (p q : Past) (line : ServerLine) → SameServers p.trace q.trace → said grid row p (Serving line) ≡ said grid other q (Serving line)
said_serving grid row other p q line same = λ i. server_told grid (same.up i) (same.gone i) line
