-- What the tenant's own lines do to a going operation: a retry of its session, a delivery to a server that is up, and the
-- delivery of what that server sends back.
use Rattle.std.proofs.Common.{◌≡◌, ℕ, zero, suc, ◌+◌, ◌<◌, ◌≤◌, Bool, true, false, ◌++◌, List, [], ◌∷◌, length, refl, sym, ap, ◌∙◌, Option, Some, None, min, arith}
use Rattle.std.specs.Prelude.{nat_le, slice_get, option_map}
use Rattle.std.proofs.lemmas.Bool.{eq-eqb, lt-leb}
use Rattle.std.proofs.lemmas.List.{length-append}
use Rattle.gq_grid.specs.Grid.{Grid, Servers}
use Rattle.gq_tag.specs.declared.Tag.{Tag}
use Rattle.gq_tag.specs.declared.StoredCopy.{StoredCopy}
use Rattle.gq_tag.specs.declared.Body.{Body}
use Rattle.gq_tag.specs.declared.Body.TheVariants.{Ask, Copy, Store, Stored}
use Rattle.gq_tag.specs.Tag.{File, OwnMessage, to_server, answer_body}
use Rattle.gq_desk.specs.declared.plans.TenantRow.{TenantRow}
use Rattle.gq_desk.specs.Plans.{is_in}
use Rattle.gq_phase.specs.declared.Outcome.{Outcome}
use Rattle.gq_phase.specs.Phase.{Task, Operation, Heard, HeardNoted, HeardNext, HeardDone, is_collect, round_body, round_file, round_quorum, hear_current, with_reply, moved, resent}
use Rattle.gq_model.specs.declared.events.Line.{Line}
use Rattle.gq_model.specs.declared.events.Line.TheVariants.{Deliver, Retry}
use Rattle.gq_model.specs.Told.{Replied, Noted, Done, Resent}
use Rattle.gq_model.specs.Trace.{Own, Entry, Trace, Past, Session, Elsewhere, Hears, Moves, Ends, deed, session, session_by, volumes, sent, is_lost, lacks, questions, up, operation, operation_with, collected_by, floor_by}
use Rattle.gq_model.specs.Lone.{Step, after, said, step_at, is_refusal, heard_step, hear_step, line_step, deliver_step, message_of_turn, trace_after}
use Rattle.gq_laws.proofs.Words.{current, round, message_at, held}
use Rattle.gq_laws.proofs.Runs.{IsRun}
use Rattle.gq_laws.proofs.Acts.{going, back}

-- ---- places of a list

pub slice_left : {X : Type 0} (xs ys : List X) (n : ℕ) (x : X) → slice_get xs n ≡ Some x → slice_get (xs ++ ys) n ≡ Some x
slice_left [] ys n x h = absurd (let bad : None ≡ Some x = h in cc)
slice_left (y ∷ xs) ys zero x h = h
slice_left (y ∷ xs) ys (suc n) x h = slice_left xs ys n x h

pub slice_right : {X : Type 0} (xs ys : List X) (n i : ℕ) → n ≡ length xs + i → slice_get (xs ++ ys) n ≡ slice_get ys i
slice_right [] ys n i at = let same : n ≡ i = omega arith in ap (slice_get ys) same
slice_right (y ∷ xs) ys zero i at = absurd (omega arith)
slice_right (y ∷ xs) ys (suc n) i at = slice_right xs ys n i (omega arith)

-- ---- one accepted line

-- the past with an accepted line more
abbrev pub with_entry : Past → Entry → Past
with_entry p e = record { lines = p.lines + 1; trace = e ∷ p.trace }

-- the line is accepted, and leaves this entry
pub record Accepted (grid : Grid) (row : TenantRow) (p : Past) (line : Line) (e : Entry) : Type 0 where
  pub told : said grid row p (Own line) ≡ e.told
  pub fine : is_refusal e.told ≡ false
  pub then_is : after grid row p (Own line) ≡ with_entry p e
  pub run : IsRun grid row p.trace → IsRun grid row (e ∷ p.trace)

pub accepted_as : (grid : Grid) (row : TenantRow) (p : Past) (line : Line) (message : Option OwnMessage) (s : Step) → p.lines < row.steps → line_step grid row (questions p.trace) line ≡ s →
    message_of_turn (questions p.trace) (Own line) ≡ message → is_refusal s.told ≡ false → Accepted grid row p line (record { turn = Own line; message = message; told = s.told; new = s.new })
accepted_as grid row p line message s steps is found fine = record {
  told = ap (λ z. z.told) same;
  fine = fine;
  then_is = (λ i. record { lines = p.lines + 1; trace = trace_after p.trace (Own line) (same i) }) ∙ grown;
  run = λ run. (run, record { lines = min row.steps p.lines; message = sym found; told = ap (λ z. z.told) same; new = ap (λ z. z.new) same; accepted = fine });
}
  where
    unspent : nat_le row.steps (min row.steps p.lines) ≡ false
    unspent = lt-leb row.steps (min row.steps p.lines) (omega arith)

    same : step_at grid row p (Own line) ≡ s
    same = rw unspent is

    grown : record { lines = p.lines + 1; trace = trace_after p.trace (Own line) s } ≡ with_entry p (record { turn = Own line; message = message; told = s.told; new = s.new })
    grown = rw (fine, found) refl

-- ---- a going operation

-- after this past the operation is going, these servers are up and have all files, and no message is lost but of the first so many
pub record Ongoing (grid : Grid) (row : TenantRow) (alive : Servers) (first : ℕ) (p : Past) (o : Operation) : Type 0 where
  pub run : IsRun grid row p.trace
  pub up_is : up p.trace ≡ alive
  pub whole : (server : ℕ) (file : File) → alive server ≡ true → lacks p.trace server file ≡ false
  pub busy : current p.trace o.session ≡ Some o.task
  pub is : going p.trace o.session o.task ≡ o
  pub kept : (n : ℕ) → first ≤ n → is_lost p.trace n ≡ false
  pub low : first ≤ length (sent p.trace)

-- the message of the operation's round to a server
abbrev pub message_to : Operation → ℕ → OwnMessage
message_to o server =
    record { session = o.session; op = o.op; round = o.round; server = server; file = round_file o.task o.round; body = round_body o.round o.collected }

-- more messages were sent
pub lower : (t : Trace) (e : Entry) (first : ℕ) → first ≤ length (sent t) → first ≤ length (sent (e ∷ t))
lower t e first low = let size : length (sent (e ∷ t)) ≡ length (sent t) + length e.new = length-append (sent t) e.new in omega arith

-- a message that was sent is there
there : (grid : Grid) (row : TenantRow) (alive : Servers) (first : ℕ) (p : Past) (o : Operation) (n : ℕ) (l : OwnMessage) → Ongoing grid row alive first p o → first ≤ n → slice_get (sent p.trace) n ≡ Some l → message_at p.trace n ≡ Some l
there grid row alive first p o n l s late at = rw (s.kept n late) at

-- ---- a retry

abbrev pub retry_entry : Grid → Trace → Operation → Servers → Entry
retry_entry grid t o quorum = record { turn = Own (Retry o.session); message = None; told = Resent (length (sent t)) (length (resent grid o quorum)); new = resent grid o quorum }

retry_is : (grid : Grid) (row : TenantRow) (t : Trace) (k : ℕ) (task : Task) (quorum : Servers) → is_in 1 row.sessions k ≡ true → current t k ≡ Some task → round_quorum grid (up t) (round t k) ≡ Some quorum →
    line_step grid row (questions t) (Retry k) ≡ record { told = Resent (length (sent t)) (length (resent grid (going t k task) quorum)); new = resent grid (going t k task) quorum }
retry_is grid row t k task quorum inside busy chosen = rw (inside, busy, chosen) refl

-- a retry sends the round's message to each server of the quorum that was not heard
pub retries : (grid : Grid) (row : TenantRow) (alive : Servers) (first : ℕ) (p : Past) (o : Operation) (quorum : Servers) → Ongoing grid row alive first p o → p.lines < row.steps → is_in 1 row.sessions o.session ≡ true →
    round_quorum grid alive o.round ≡ Some quorum →
    Accepted grid row p (Retry o.session) (retry_entry grid p.trace o quorum) × Ongoing grid row alive first (with_entry p (retry_entry grid p.trace o quorum)) o
retries grid row alive first p o quorum s steps inside chosen = (
  goes,
  record { run = goes.run s.run; up_is = s.up_is; whole = s.whole; busy = s.busy; is = s.is; kept = s.kept; low = lower p.trace (retry_entry grid p.trace o quorum) first s.low },
)
  where
    chosen_now : round_quorum grid (up p.trace) (round p.trace o.session) ≡ Some quorum
    chosen_now = ap (λ up. round_quorum grid up (round p.trace o.session)) s.up_is ∙ ap (λ z. round_quorum grid alive z.round) s.is ∙ chosen

    step : line_step grid row (questions p.trace) (Retry o.session) ≡ record { told = Resent (length (sent p.trace)) (length (resent grid o quorum)); new = resent grid o quorum }
    step = retry_is grid row p.trace o.session o.task quorum inside s.busy chosen_now ∙ ap (λ z. record { told = Resent (length (sent p.trace)) (length (resent grid z quorum)); new = resent grid z quorum }) s.is

    goes : Accepted grid row p (Retry o.session) (retry_entry grid p.trace o quorum)
    goes = accepted_as grid row p (Retry o.session) None (record { told = Resent (length (sent p.trace)) (length (resent grid o quorum)); new = resent grid o quorum }) steps step refl refl

-- ---- a delivery to a server

to_its_server : (round : ℕ) (collected : List StoredCopy) → to_server (round_body round collected) ≡ true
to_its_server round collected = by (is_collect round) refl
  where
    by : (b : Bool) → is_collect round ≡ b → to_server (round_body round collected) ≡ true
    by true e = rw e refl
    by false e = rw e refl

abbrev pub serve_entry : Trace → ℕ → OwnMessage → Entry
serve_entry t n m = record { turn = Own (Deliver n); message = Some m; told = Replied (length (sent t)); new = back t m ∷ [] }

-- a message of the round that comes to a server that is up is replied to
pub serves : (grid : Grid) (row : TenantRow) (alive : Servers) (first : ℕ) (p : Past) (o : Operation) (n server : ℕ) → Ongoing grid row alive first p o → p.lines < row.steps → first ≤ n →
    slice_get (sent p.trace) n ≡ Some (message_to o server) → alive server ≡ true →
    Accepted grid row p (Deliver n) (serve_entry p.trace n (message_to o server)) × Ongoing grid row alive first (with_entry p (serve_entry p.trace n (message_to o server))) o
serves grid row alive first p o n server s steps late at is_up = (
  goes,
  record { run = goes.run s.run; up_is = s.up_is; whole = s.whole; busy = ap (λ z. z.current) now ∙ s.busy; is = ap (λ z. operation_with o.session z o.task) now ∙ s.is; kept = s.kept; low = lower p.trace e first s.low },
)
  where
    m : OwnMessage
    m = message_to o server

    e : Entry
    e = serve_entry p.trace n m

    to : to_server m.body ≡ true
    to = to_its_server o.round o.collected

    alive_now : up p.trace server ≡ true
    alive_now = ap (λ up. up server) s.up_is ∙ is_up

    found : message_at p.trace n ≡ Some m
    found = there grid row alive first p o n m s late at

    served : deliver_step grid (questions p.trace) (Some m) ≡ record { told = e.told; new = e.new }
    served = rw (to, s.whole m.server m.file is_up, alive_now) refl

    goes : Accepted grid row p (Deliver n) e
    goes = accepted_as grid row p (Deliver n) (Some m) (record { told = e.told; new = e.new }) steps (ap (deliver_step grid (questions p.trace)) found ∙ served) found refl

    does : deed o.session e ≡ Elsewhere
    does = rw to refl

    now : session (e ∷ p.trace) o.session ≡ session p.trace o.session
    now = λ i. session_by (volumes p.trace) o.session (does i) (session p.trace o.session)

-- the reply of a server is no message to a server
reply_comes_back : (copy : StoredCopy) (body : Body) → to_server (answer_body copy body) ≡ false
reply_comes_back copy Ask = refl
reply_comes_back copy (Copy c) = refl
reply_comes_back copy (Store c) = refl
reply_comes_back copy Stored = refl

pub back_comes : (t : Trace) (m : OwnMessage) → to_server (back t m).body ≡ false
back_comes t m = reply_comes_back (held t m.server m.file) m.body

-- ---- the delivery of a reply

-- the message is a reply of the operation's round
pub record Answers (o : Operation) (l : OwnMessage) : Type 0 where
  pub session : l.session ≡ o.session
  pub op : l.op ≡ o.op
  pub round : l.round ≡ o.round
  pub reply : to_server l.body ≡ false

hears : (grid : Grid) (row : TenantRow) (alive : Servers) (first : ℕ) (p : Past) (o : Operation) (n : ℕ) (l : OwnMessage) (h : Heard) → Ongoing grid row alive first p o → first ≤ n → slice_get (sent p.trace) n ≡ Some l → Answers o l →
    hear_current grid alive (with_reply o l) ≡ h → line_step grid row (questions p.trace) (Deliver n) ≡ heard_step (length (sent p.trace)) h
hears grid row alive first p o n l h s late at a is = ap (deliver_step grid (questions p.trace)) (there grid row alive first p o n l s late at) ∙ delivered
  where
    has : operation (questions p.trace) l.session ≡ Some o
    has = ap (operation (questions p.trace)) a.session ∙ rw s.busy (ap Some s.is)

    said : hear_step grid (questions p.trace) l (Some o) ≡ heard_step (length (sent p.trace)) h
    said = rw (s.up_is, eq-eqb l.op o.op a.op, eq-eqb l.round o.round a.round) (ap (heard_step (length (sent p.trace))) is)

    delivered : deliver_step grid (questions p.trace) (Some l) ≡ heard_step (length (sent p.trace)) h
    delivered = rw a.reply (ap (hear_step grid (questions p.trace) l) has ∙ said)

abbrev pub heard_entry : ℕ → OwnMessage → Step → Entry
heard_entry n l s = record { turn = Own (Deliver n); message = Some l; told = s.told; new = s.new }

-- a reply is noted, and the round goes on
pub notes : (grid : Grid) (row : TenantRow) (alive : Servers) (first : ℕ) (p : Past) (o : Operation) (n : ℕ) (l : OwnMessage) → Ongoing grid row alive first p o → p.lines < row.steps → first ≤ n → slice_get (sent p.trace) n ≡ Some l → Answers o l →
    hear_current grid alive (with_reply o l) ≡ HeardNoted →
    Accepted grid row p (Deliver n) (heard_entry n l (record { told = Noted; new = [] })) × Ongoing grid row alive first (with_entry p (heard_entry n l (record { told = Noted; new = [] }))) (with_reply o l)
notes grid row alive first p o n l s steps late at a noted = (
  goes,
  record {
    run = goes.run s.run;
    up_is = s.up_is;
    whole = s.whole;
    busy = ap (λ z. z.current) now ∙ s.busy;
    is = ap (λ z. operation_with o.session z o.task) now ∙ ap (λ z. with_reply z l) s.is;
    kept = s.kept;
    low = lower p.trace e first s.low;
  },
)
  where
    e : Entry
    e = heard_entry n l (record { told = Noted; new = [] })

    goes : Accepted grid row p (Deliver n) e
    goes = accepted_as grid row p (Deliver n) (Some l) (record { told = Noted; new = [] }) steps (hears grid row alive first p o n l HeardNoted s late at a noted) (there grid row alive first p o n l s late at) refl

    does : deed o.session e ≡ Hears l
    does = rw (a.reply, eq-eqb l.session o.session a.session) refl

    now : session (e ∷ p.trace) o.session ≡ session_by (volumes p.trace) o.session (Hears l) (session p.trace o.session)
    now = λ i. session_by (volumes p.trace) o.session (does i) (session p.trace o.session)

-- a reply ends the round, and the next begins
pub moves : (grid : Grid) (row : TenantRow) (alive : Servers) (first : ℕ) (p : Past) (o : Operation) (n : ℕ) (l : OwnMessage) (r : ℕ) (tag : Option Tag) (messages : List OwnMessage) → Ongoing grid row alive first p o → p.lines < row.steps → first ≤ n → slice_get (sent p.trace) n ≡ Some l → Answers o l →
    hear_current grid alive (with_reply o l) ≡ HeardNext r tag messages →
    Accepted grid row p (Deliver n) (heard_entry n l (heard_step (length (sent p.trace)) (HeardNext r tag messages))) × Ongoing grid row alive first (with_entry p (heard_entry n l (heard_step (length (sent p.trace)) (HeardNext r tag messages)))) (moved o l r tag)
moves grid row alive first p o n l r tag messages s steps late at a next = (
  goes,
  record {
    run = goes.run s.run;
    up_is = s.up_is;
    whole = s.whole;
    busy = ap (λ z. z.current) now ∙ s.busy;
    is = ap (λ z. operation_with o.session z o.task) now ∙ in_words ∙ ap (λ z. moved z l r tag) s.is;
    kept = s.kept;
    low = lower p.trace e first s.low;
  },
)
  where
    e : Entry
    e = heard_entry n l (heard_step (length (sent p.trace)) (HeardNext r tag messages))

    goes : Accepted grid row p (Deliver n) e
    goes = accepted_as grid row p (Deliver n) (Some l) (heard_step (length (sent p.trace)) (HeardNext r tag messages)) steps (hears grid row alive first p o n l (HeardNext r tag messages) s late at a next) (there grid row alive first p o n l s late at) refl

    does : deed o.session e ≡ Moves l r tag
    does = rw (a.reply, eq-eqb l.session o.session a.session) refl

    was : Session
    was = session p.trace o.session

    now : session (e ∷ p.trace) o.session ≡ session_by (volumes p.trace) o.session (Moves l r tag) was
    now = λ i. session_by (volumes p.trace) o.session (does i) was

    in_words : operation_with o.session (session_by (volumes p.trace) o.session (Moves l r tag) was) o.task ≡ moved (operation_with o.session was o.task) l r tag
    in_words = λ i. record { session = o.session; op = was.op; task = o.task; round = r; heard = []; collected = collected_by o.session l was (s.busy i); floor = floor_by tag was.floor (s.busy i) }

-- a reply ends the operation
pub finishes : (grid : Grid) (row : TenantRow) (alive : Servers) (first : ℕ) (p : Past) (o : Operation) (n : ℕ) (l : OwnMessage) (outcome : Outcome) → Ongoing grid row alive first p o → p.lines < row.steps → first ≤ n → slice_get (sent p.trace) n ≡ Some l → Answers o l →
    hear_current grid alive (with_reply o l) ≡ HeardDone outcome →
    Accepted grid row p (Deliver n) (heard_entry n l (record { told = Done outcome; new = [] })) × (operation (questions (heard_entry n l (record { told = Done outcome; new = [] }) ∷ p.trace)) o.session ≡ None)
finishes grid row alive first p o n l outcome s steps late at a done = (goes, ap (λ z. option_map (operation_with o.session z) z.current) now)
  where
    e : Entry
    e = heard_entry n l (record { told = Done outcome; new = [] })

    goes : Accepted grid row p (Deliver n) e
    goes = accepted_as grid row p (Deliver n) (Some l) (record { told = Done outcome; new = [] }) steps (hears grid row alive first p o n l (HeardDone outcome) s late at a done) (there grid row alive first p o n l s late at) refl

    does : deed o.session e ≡ Ends
    does = rw (a.reply, eq-eqb l.session o.session a.session) refl

    now : session (e ∷ p.trace) o.session ≡ session_by (volumes p.trace) o.session Ends (session p.trace o.session)
    now = λ i. session_by (volumes p.trace) o.session (does i) (session p.trace o.session)
