-- How many messages a tenant's run has sent at most, and which numbers its accepted lines have; none of them is told that it is
-- nobody's.
use Rattle.std.proofs.Common.{◌≡◌, ℕ, ◌+◌, ◌*◌, ◌<◌, ◌≤◌, List, [], ◌∷◌, length, map, Option, Some, None, Bool, true, false, cond, refl, arith, min, All}
use Rattle.std.specs.Prelude.{not, nat_le, fold}
use Rattle.std.proofs.lemmas.Bool.{leb-true, leb-false, and_parts, true≢false}
use Rattle.std.proofs.lemmas.List.{length-append, length-map}
use Rattle.std.proofs.lemmas.List.Elements.{All-nil, All-cons, All-head, All-tail}
use Rattle.std.proofs.lemmas.Option.{slice_get_within}
use Rattle.gq_grid.specs.Grid.{Grid, Servers, Choice}
use Rattle.gq_tag.specs.Tag.{OwnMessage, to_server}
use Rattle.gq_desk.specs.declared.plans.TenantRow.{TenantRow}
use Rattle.gq_desk.specs.Plans.{is_in}
use Rattle.gq_desk.specs.Volumes.{OpenFault, WrongSize, NoVolumeLeft, OverShare, open_fault}
use Rattle.gq_phase.specs.Phase.{Task, Operation, Heard, HeardStale, HeardNoted, HeardNext, HeardDone, hear, in_round, with_decided, with_reply, round_quorum, resent}
use Rattle.gq_model.specs.declared.events.Line.{Line}
use Rattle.gq_model.specs.declared.events.Line.TheVariants.{Bad, Quorum, NewVolume, Volumes, Write, Read, List as ListFiles, Deliver, Lose, Retry, Abandon}
use Rattle.gq_model.specs.declared.events.Refusal.{Refusal}
use Rattle.gq_model.specs.declared.events.Refusal.TheVariants.{Spent, NoSession, Bad as BadLine}
use Rattle.gq_model.specs.Told.{Told, IsDown, Stale, Noted, Done, Abandoned, Refused, StrayBad}
use Rattle.gq_model.specs.Trace.{Turn, Own, Serving, Leaping, Losing, Returning, Trace, State, Past, start, sent, serves, questions, operation, own_message_at, account_of, task_of}
use Rattle.gq_model.specs.Lone.{Step, quiet, Cause, idle, no_quorum, first_cause, session_causes, session_step, asked_step, first_operation, begin_step, serve_step, heard_step, hear_step, deliver_step, retry_step, unless, choice_told, open_told, lose_told, line_step, server_told, leap_told, loss_told, return_told, said, after, trace_after, told_from, is_refusal}
use Rattle.gq_laws.proofs.Acts.{message_sent}
use Rattle.gq_world.proofs.Hearing.{few_messages, length-rising, hear_cases}

-- ---- one line

-- it is told that the line is nobody's
abbrev pub is_stray : Told → Bool
is_stray StrayBad = true
is_stray _ = false

-- at most 65 messages are sent, and the line is somebody's
record Light (s : Step) : Type 0 where
  few : length s.new ≤ 65
  own : is_stray s.told ≡ false

quiet_light : (told : Told) → is_stray told ≡ false → Light (quiet told)
quiet_light told own = record { few = omega arith; own = own }

unless_light : (o : Option Refusal) (s : Step) → Light s → Light (unless o s)
unless_light None s light = light
unless_light (Some word) s light = quiet_light (Refused word) refl

-- the grid has at most 64 servers
abbrev pub IsSmall : Grid → Type 0
IsSmall grid = grid.rows * grid.cols ≤ 64

begin_light : (grid : Grid) (state : State) (k : ℕ) (o : Option Task) → IsSmall grid → Light (begin_step grid state k o)
begin_light grid state k None small = quiet_light (Refused BadLine) refl
begin_light grid state k (Some task) small =
    let few = few_messages grid state.up (first_operation state k task) in
    record { few = omega (arith, few, small); own = refl }

-- what an operation says sends few messages
abbrev SendsFew : Grid → Heard → Type 0
SendsFew grid HeardStale = Unit {0}
SendsFew grid HeardNoted = Unit {0}
SendsFew grid (HeardNext round tag messages) = length messages ≤ grid.rows * grid.cols
SendsFew grid (HeardDone outcome) = Unit {0}

hear_few : (grid : Grid) (up : Servers) (o : Operation) (m : OwnMessage) → SendsFew grid (hear grid up o m)
hear_few grid up o m = hear_cases (SendsFew grid) grid up o m tt (λ now. tt)
    (λ now odd. few_messages grid up (in_round p (2 * length p.collected)))
    (λ volume files now odd is more. few_messages grid up (in_round p (2 * length p.collected + 1)))
    (λ volume files now even is more. few_messages grid up (in_round (with_reply o m) (2 * length (with_reply o m).collected + 1)))
    (λ outcome. tt)
  where
    p : Operation
    p = with_decided (with_reply o m)

heard_light : (grid : Grid) (first : ℕ) (h : Heard) → IsSmall grid → SendsFew grid h → Light (heard_step first h)
heard_light grid first HeardStale small few = quiet_light Stale refl
heard_light grid first HeardNoted small few = quiet_light Noted refl
heard_light grid first (HeardNext round tag messages) small few = record { few = omega (arith, few, small); own = refl }
heard_light grid first (HeardDone outcome) small few = quiet_light (Done outcome) refl

hear_light : (grid : Grid) (state : State) (m : OwnMessage) (o : Option Operation) → IsSmall grid → Light (hear_step grid state m o)
hear_light grid state m None small = quiet_light Stale refl
hear_light grid state m (Some o) small = heard_light grid (length state.sent) (hear grid state.up o m) small (hear_few grid state.up o m)

serve_light : (state : State) (m : OwnMessage) → Light (serve_step state m)
serve_light state m = by (serves state.up state.lacks m.server m.file) refl
  where
    by : (b : Bool) → serves state.up state.lacks m.server m.file ≡ b → Light (serve_step state m)
    by true is = rw is (record { few = omega arith; own = refl })
    by false is = rw is (quiet_light IsDown refl)

deliver_light : (grid : Grid) (state : State) (o : Option OwnMessage) → IsSmall grid → Light (deliver_step grid state o)
deliver_light grid state None small = quiet_light (Refused _) refl
deliver_light grid state (Some m) small = by (to_server m.body) refl
  where
    by : (b : Bool) → to_server m.body ≡ b → Light (deliver_step grid state (Some m))
    by true is = rw is (serve_light state m)
    by false is = rw is (hear_light grid state m (operation state m.session) small)

few_resent : (grid : Grid) (o : Operation) (quorum : Servers) → length (resent grid o quorum) ≤ grid.rows * grid.cols
few_resent grid o quorum = simp length-map (length-rising grid _)

retry_light : (grid : Grid) (state : State) (o : Option Operation) → IsSmall grid → Light (retry_step grid state o)
retry_light grid state None small = quiet_light (Refused _) refl
retry_light grid state (Some o) small = by (round_quorum grid state.up o.round) refl
  where
    by : (q : Option Servers) → round_quorum grid state.up o.round ≡ q → Light (retry_step grid state (Some o))
    by None is = rw is (quiet_light (Refused _) refl)
    by (Some quorum) is =
        let few = few_resent grid o quorum in
        rw is (record { few = omega (arith, few, small); own = refl })

choice_own : (grid : Grid) (o : Option Choice) → is_stray (choice_told grid o) ≡ false
choice_own grid None = refl
choice_own grid (Some choice) = refl

open_own : (n : ℕ) (o : Option OpenFault) → is_stray (open_told n o) ≡ false
open_own n None = refl
open_own n (Some WrongSize) = refl
open_own n (Some NoVolumeLeft) = refl
open_own n (Some (OverShare free)) = refl

lose_own : (o : Option OwnMessage) → is_stray (lose_told o) ≡ false
lose_own None = refl
lose_own (Some m) = refl

asked_light : (grid : Grid) (row : TenantRow) (state : State) (line : Line) → Light (session_step grid state line) → Light (asked_step grid row state line)
asked_light grid row state line light = unless_light (first_cause (session_causes grid row state line)) (session_step grid state line) light

line_light : (grid : Grid) (row : TenantRow) (state : State) (line : Line) → IsSmall grid → Light (line_step grid row state line)
line_light grid row state Bad small = quiet_light _ refl
line_light grid row state Quorum small = quiet_light _ (choice_own grid _)
line_light grid row state (NewVolume files blocks) small = quiet_light _ (open_own (length state.volumes) (open_fault (account_of row state) (record { files = files; blocks = blocks })))
line_light grid row state Volumes small = quiet_light _ refl
line_light grid row state (Write k v f bytes) small = asked_light grid row state (Write k v f bytes) (begin_light grid state k (task_of state.volumes (Write k v f bytes)) small)
line_light grid row state (Read k v f) small = asked_light grid row state (Read k v f) (begin_light grid state k (task_of state.volumes (Read k v f)) small)
line_light grid row state (ListFiles k v) small = asked_light grid row state (ListFiles k v) (begin_light grid state k (task_of state.volumes (ListFiles k v)) small)
line_light grid row state (Deliver number) small = deliver_light grid state (own_message_at state number) small
line_light grid row state (Lose number) small = quiet_light _ (lose_own (own_message_at state number))
line_light grid row state (Retry k) small = asked_light grid row state (Retry k) (retry_light grid state (operation state k) small)
line_light grid row state (Abandon k) small = asked_light grid row state (Abandon k) (quiet_light Abandoned refl)

-- ---- from a past on

-- so many messages were sent at most
abbrev pub IsFew : TenantRow → Past → Type 0
IsFew row p = length (sent p.trace) ≤ 65 * min row.steps p.lines

-- a turn's step sends what it says, or nothing
sent_after : (t : Trace) (turn : Turn) (s : Step) → length (sent (trace_after t turn s)) ≤ length (sent t) + length s.new
sent_after t turn s = by (is_refusal s.told) refl
  where
    by : (b : Bool) → is_refusal s.told ≡ b → length (sent (trace_after t turn s)) ≤ length (sent t) + length s.new
    by true is = rw is (omega arith)
    by false is = let size = length-append (sent t) s.new in rw is (omega (arith, size))

few_after : (grid : Grid) (row : TenantRow) (p : Past) (turn : Turn) → IsSmall grid → IsFew row p → IsFew row (after grid row p turn)
few_after grid row p (Serving line) small few =
    let grown = sent_after p.trace (Serving line) (quiet (server_told grid (questions p.trace).up (questions p.trace).gone line)) in
    omega (arith, grown, few)
few_after grid row p (Leaping k op number) small few =
    let grown = sent_after p.trace (Leaping k op number) (quiet (leap_told (questions p.trace) k)) in
    omega (arith, grown, few)
few_after grid row p (Losing s volumes) small few =
    let grown = sent_after p.trace (Losing s volumes) (quiet (loss_told (questions p.trace) (Losing s volumes))) in
    omega (arith, grown, few)
few_after grid row p (Returning s f peer copy) small few =
    let grown = sent_after p.trace (Returning s f peer copy) (quiet (return_told grid (questions p.trace) s f peer copy)) in
    omega (arith, grown, few)
few_after grid row p (Own line) small few = by (nat_le row.steps (min row.steps p.lines)) refl
  where
    s : Step
    s = line_step grid row (questions p.trace) line

    by : (b : Bool) → nat_le row.steps (min row.steps p.lines) ≡ b → IsFew row (after grid row p (Own line))
    by true spent = let few_now = few in rw spent (omega (arith, few_now))
    by false left =
        let under = leb-false row.steps (min row.steps p.lines) left in
        let grown = sent_after p.trace (Own line) s in
        let light = (line_light grid row (questions p.trace) line small).few in
        rw left (omega (arith, grown, light, under, few))

pub few_from : (grid : Grid) (row : TenantRow) (turns : List Turn) (p : Past) → IsSmall grid → IsFew row p → IsFew row (fold (after grid row) p turns)
few_from grid row [] p small few = few
few_from grid row (turn ∷ turns) p small few = few_from grid row turns (after grid row p turn) small (few_after grid row p turn small few)

pub few_at_start : (row : TenantRow) → IsFew row start
few_at_start row = omega arith

-- ---- what is told to the tenant's lines

one_own : (grid : Grid) (row : TenantRow) (p : Past) (line : Line) → IsSmall grid → is_stray (said grid row p (Own line)) ≡ false
one_own grid row p line small = by (nat_le row.steps (min row.steps p.lines))
  where
    by : (b : Bool) → is_stray (cond b (quiet (Refused Spent)) (line_step grid row (questions p.trace) line)).told ≡ false
    by true = refl
    by false = (line_light grid row (questions p.trace) line small).own

pub all_own : (grid : Grid) (row : TenantRow) (lines : List Line) (p : Past) → IsSmall grid → All (λ told. is_stray told ≡ false) (told_from grid row p (map Own lines))
all_own grid row [] p small = All-nil (λ told. is_stray told ≡ false)
all_own grid row (line ∷ lines) p small =
    All-cons (λ told. is_stray told ≡ false) (said grid row p (Own line)) (told_from grid row (after grid row p (Own line)) (map Own lines)) (one_own grid row p line small) (all_own grid row lines (after grid row p (Own line)) small)

-- ---- numbers of accepted lines

-- a retry is of a session of the row, a delivery of a message that may have been sent
abbrev pub HasNumber : TenantRow → Line → Type 0
HasNumber row (Retry k) = k ≤ row.sessions
HasNumber row (Deliver n) = n < 65 * row.steps
HasNumber row _ = Unit {0}

unspent : (b : Bool) (s : Step) → is_refusal (cond b (quiet (Refused Spent)) s).told ≡ false → is_refusal s.told ≡ false
unspent true s fine = absurd (true≢false fine)
unspent false s fine = fine

retry_in : (row : TenantRow) (k : ℕ) (causes : List Cause) (s : Step) → is_refusal (unless (first_cause ((not (is_in 1 row.sessions k), NoSession) ∷ causes)) s).told ≡ false → k ≤ row.sessions
retry_in row k causes s fine = by (is_in 1 row.sessions k) refl fine
  where
    by : (b : Bool) → is_in 1 row.sessions k ≡ b → is_refusal (unless (cond (not b) (Some NoSession) (first_cause causes)) s).told ≡ false → k ≤ row.sessions
    by true is fine = leb-true k row.sessions (and_parts (nat_le 1 k) (nat_le k row.sessions) is).1
    by false is fine = absurd (true≢false fine)

sent_number : (grid : Grid) (row : TenantRow) (p : Past) (n : ℕ) → IsFew row p → (o : Option OwnMessage) → own_message_at (questions p.trace) n ≡ o → is_refusal (deliver_step grid (questions p.trace) o).told ≡ false → n < 65 * row.steps
sent_number grid row p n few None is fine = absurd (true≢false fine)
sent_number grid row p n few (Some m) is fine =
    let within = slice_get_within (sent p.trace) n m (message_sent p.trace n m is) in
    omega (arith, within, few)

one_number : (grid : Grid) (row : TenantRow) (p : Past) (line : Line) → IsFew row p → is_refusal (line_step grid row (questions p.trace) line).told ≡ false → HasNumber row line
one_number grid row p (Retry k) few fine = retry_in row k (idle (questions p.trace) k ∷ no_quorum grid (questions p.trace) ((questions p.trace).session k).round ∷ []) (session_step grid (questions p.trace) (Retry k)) fine
one_number grid row p (Deliver n) few fine = sent_number grid row p n few (own_message_at (questions p.trace) n) refl fine
one_number grid row p other few fine = tt

pub all_numbers : (grid : Grid) (row : TenantRow) (lines : List Line) (p : Past) → IsSmall grid → IsFew row p → All (λ told. is_refusal told ≡ false) (told_from grid row p (map Own lines)) → All (HasNumber row) lines
all_numbers grid row [] p small few fine = All-nil (HasNumber row)
all_numbers grid row (line ∷ lines) p small few fine =
    let now : is_refusal (said grid row p (Own line)) ≡ false = All-head (λ told. is_refusal told ≡ false) (said grid row p (Own line)) (told_from grid row (after grid row p (Own line)) (map Own lines)) fine in
    let later = All-tail (λ told. is_refusal told ≡ false) (said grid row p (Own line)) (told_from grid row (after grid row p (Own line)) (map Own lines)) fine in
    All-cons (HasNumber row) line lines
    (one_number grid row p line few (unspent (nat_le row.steps (min row.steps p.lines)) (line_step grid row (questions p.trace) line) now))
    (all_numbers grid row lines (after grid row p (Own line)) small (few_after grid row p (Own line) small few) later)
