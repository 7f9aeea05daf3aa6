-- A request that is accepted can be completed; and a session that abandons its operation may ask again.
use Rattle.std.proofs.Common.{◌≡◌, ◌≢◌, ℕ, ◌+◌, ◌≤◌, Bool, true, false, List, [], ◌∷◌, length, refl, sym, ap, ◌∙◌, Option, Some, None, is_some, min, arith}
use Rattle.std.specs.Prelude.{nat_le}
use Rattle.std.proofs.lemmas.Bool.{eq-eqb}
use Rattle.gq_grid.specs.Grid.{Grid}
use Rattle.gq_desk.specs.declared.plans.TenantRow.{TenantRow}
use Rattle.gq_desk.specs.Plans.{is_in}
use Rattle.gq_phase.specs.Phase.{Task, Operation, round_messages}
use Rattle.gq_model.specs.declared.events.Line.{Line}
use Rattle.gq_model.specs.declared.events.Line.TheVariants.{Write, Read, List as ListFiles, Abandon}
use Rattle.gq_model.specs.declared.events.Refusal.{Refusal}
use Rattle.gq_model.specs.declared.events.Refusal.TheVariants.{Spent, NoSession, Busy, NoVolume, NoFile, TooLong, NoQuorum}
use Rattle.gq_model.specs.Told.{Began, Abandoned, Refused}
use Rattle.gq_model.specs.Trace.{Own, Entry, Trace, Past, State, Begins, Ends, deed, questions, up, sent, is_lost, lost_by, operation, task_of, session, session_by, volumes}
use Rattle.gq_model.specs.Lone.{Cause, Step, begin_step, message_of_turn, after, said, past_of, is_refusal, first_operation, first_cause, session_causes, session_step, line_step, step_at, unless, quiet, no_session, busy, no_volume, no_file, too_long, no_quorum}
use Rattle.gq_model.proofs.Changes.{operation_begins, operation_ends}
use Rattle.gq_model.specs.Events.{IsRequestOf}
use Rattle.gq_laws.specs.Progress.{Completes, QuorumsUp, HaveFiles, deliveries_left, AllRequestsComplete, Frees, AllMayAbandon}
use Rattle.gq_laws.proofs.Words.{current}
use Rattle.gq_laws.proofs.Runs.{IsRun}
use Rattle.gq_laws.proofs.Acts.{accepted_step, line_is, step_line}
use Rattle.gq_laws.proofs.Pasts.{past_run}
use Rattle.gq_laws.proofs.Going.{while_going, not_lost}
use Rattle.gq_laws.proofs.OwnLines.{Accepted, accepted_as, Ongoing, with_entry, lower}
use Rattle.gq_laws.proofs.Completing.{Deliverable, HasOperation, has_operation, round_deliverable, completes_after}

-- ---- requests

-- a request begins an operation of its session
begins : (k : ℕ) (line : Line) (e : Entry) → IsRequestOf k line → e.turn ≡ Own line → deed k e ≡ Begins line
begins k (Write s v f bytes) e its is = rw (is, eq-eqb s k its) refl
begins k (Read s v f) e its is = rw (is, eq-eqb s k its) refl
begins k (ListFiles s v) e its is = rw (is, eq-eqb s k its) refl
begins k other e its is = absurd its

-- it loses no message
keeps : (k : ℕ) (line : Line) (before : ℕ → Bool) (n : ℕ) → IsRequestOf k line → lost_by (Own line) before n ≡ before n
keeps k (Write s v f bytes) before n its = refl
keeps k (Read s v f) before n its = refl
keeps k (ListFiles s v) before n its = refl
keeps k other before n its = absurd its

-- and sends the messages of the first round
sends : (grid : Grid) (row : TenantRow) (state : State) (k : ℕ) (line : Line) (task : Task) → IsRequestOf k line → task_of state.volumes line ≡ Some task →
    (accepted_step grid row state line).new ≡ round_messages grid state.up (first_operation state k task)
sends grid row state k (Write s v f bytes) task its asks = ap (λ z. (begin_step grid state s z).new) asks ∙ ap (λ z. round_messages grid state.up (first_operation state z task)) its
sends grid row state k (Read s v f) task its asks = ap (λ z. (begin_step grid state s z).new) asks ∙ ap (λ z. round_messages grid state.up (first_operation state z task)) its
sends grid row state k (ListFiles s v) task its asks = ap (λ z. (begin_step grid state s z).new) asks ∙ ap (λ z. round_messages grid state.up (first_operation state z task)) its
sends grid row state k other task its asks = absurd its

request_completes : (grid : Grid) (row : TenantRow) (p : Past) (k : ℕ) (line : Line) (task : Task) → IsRun grid row p.trace → IsRequestOf k line → task_of (volumes p.trace) line ≡ Some task → is_refusal (said grid row p (Own line)) ≡ false →
    QuorumsUp grid (up p.trace) → HaveFiles (questions p.trace) → p.lines + (1 + deliveries_left grid (first_operation (questions p.trace) k task)) ≤ row.steps → Completes grid row p (first_operation (questions p.trace) k task) line
request_completes grid row p k line task run its asks accepted q have steps = completes_after grid row p o line e q goes ready steps
  where
    t : Trace
    t = p.trace

    o : Operation
    o = first_operation (questions t) k task

    s : Step
    s = accepted_step grid row (questions t) line

    e : Entry
    e = record { turn = Own line; message = message_of_turn (questions t) (Own line); told = s.told; new = s.new }

    fine : is_refusal (line_step grid row (questions t) line).told ≡ false
    fine = ap (λ z. is_refusal z.told) (sym (step_line grid row (min row.steps p.lines) t line accepted)) ∙ accepted

    is : line_step grid row (questions t) line ≡ s
    is = line_is grid row (questions t) line fine

    goes : Accepted grid row p line e
    goes = accepted_as grid row p line e.message s (omega arith) is refl (ap (λ z. is_refusal z.told) (sym is) ∙ fine)

    has_now : HasOperation (e ∷ t) k o
    has_now = has_operation (e ∷ t) k o (operation_begins (questions t) e k line task (begins k line e its refl) asks)

    standing : Ongoing grid row (up t) (length (sent t)) (with_entry p e) o
    standing = record {
      run = goes.run run;
      up_is = refl;
      whole = have;
      busy = has_now.busy;
      is = has_now.is;
      kept = λ n late. keeps k line (is_lost t) n its ∙ not_lost grid row t run n late;
      low = lower t e (length (sent t)) (omega arith);
    }

    ready : Deliverable grid row (up t) (length (sent t)) (with_entry p e) o
    ready = round_deliverable grid row (up t) (length (sent t)) (with_entry p e) o (sent t) s.new q standing refl (omega arith) (sends grid row (questions t) k line task its asks)

pub all_requests_complete : AllRequestsComplete
all_requests_complete grid row turns k line task its asks accepted q have steps = request_completes grid row (past_of grid row turns) k line task (past_run grid row turns) its asks accepted q have steps

-- ---- what is abandoned

-- a cause with another word
other_cause : (cause : Cause) (rest : List Cause) → cause.1 ≢ Busy → first_cause rest ≢ Some Busy → first_cause (cause ∷ rest) ≢ Some Busy
other_cause cause rest other later h = go cause.0 refl
  where
    go : (b : Bool) → cause.0 ≡ b → ⊥
    go true e = other (let some : Some cause.1 ≡ Some Busy = rw e at h in cc)
    go false e = later (rw e at h)

-- a cause that does not hold
no_such_cause : (cause : Cause) (rest : List Cause) → cause.0 ≡ false → first_cause rest ≢ Some Busy → first_cause (cause ∷ rest) ≢ Some Busy
no_such_cause cause rest fails later h = later (rw fails at h)

-- a session without an operation has no cause to be busy
no_cause_busy : (grid : Grid) (row : TenantRow) (state : State) (k : ℕ) (line : Line) → IsRequestOf k line → (state.session k).current ≡ None → first_cause (session_causes grid row state line) ≢ Some Busy
no_cause_busy grid row state k line its idle = by line its
  where
    fails : (s : ℕ) → s ≡ k → (busy state s).0 ≡ false
    fails s same = ap (λ z. is_some (state.session z).current) same ∙ ap is_some idle

    last : first_cause (no_quorum grid state 1 ∷ []) ≢ Some Busy
    last = other_cause (no_quorum grid state 1) [] (λ e. let bad : NoQuorum ≡ Busy = e in cc) (λ e. let bad : None ≡ Some Busy = e in cc)

    from_volume : (v : ℕ) (rest : List Cause) → first_cause rest ≢ Some Busy → first_cause (no_volume state v ∷ rest) ≢ Some Busy
    from_volume v rest later = other_cause (no_volume state v) rest (λ e. let bad : NoVolume ≡ Busy = e in cc) later

    from_file : (v f : ℕ) (rest : List Cause) → first_cause rest ≢ Some Busy → first_cause (no_file state v f ∷ rest) ≢ Some Busy
    from_file v f rest later = other_cause (no_file state v f) rest (λ e. let bad : NoFile ≡ Busy = e in cc) later

    from_length : (v f : ℕ) (bytes : List ℕ) (rest : List Cause) → first_cause rest ≢ Some Busy → first_cause (too_long state v f bytes ∷ rest) ≢ Some Busy
    from_length v f bytes rest later = other_cause (too_long state v f bytes) rest (λ e. let bad : TooLong ≡ Busy = e in cc) later

    from_session : (s : ℕ) (rest : List Cause) → s ≡ k → first_cause rest ≢ Some Busy → first_cause (no_session row s ∷ busy state s ∷ rest) ≢ Some Busy
    from_session s rest same later = other_cause (no_session row s) (busy state s ∷ rest) (λ e. let bad : NoSession ≡ Busy = e in cc) (no_such_cause (busy state s) rest (fails s same) later)

    by : (line : Line) → IsRequestOf k line → first_cause (session_causes grid row state line) ≢ Some Busy
    by (Write s v f bytes) its =
        from_session s (no_volume state v ∷ no_file state v f ∷ too_long state v f bytes ∷ no_quorum grid state 1 ∷ []) its
        (from_volume v (no_file state v f ∷ too_long state v f bytes ∷ no_quorum grid state 1 ∷ []) (from_file v f (too_long state v f bytes ∷ no_quorum grid state 1 ∷ []) (from_length v f bytes (no_quorum grid state 1 ∷ []) last)))
    by (Read s v f) its = from_session s (no_volume state v ∷ no_file state v f ∷ no_quorum grid state 1 ∷ []) its (from_volume v (no_file state v f ∷ no_quorum grid state 1 ∷ []) (from_file v f (no_quorum grid state 1 ∷ []) last))
    by (ListFiles s v) its = from_session s (no_volume state v ∷ no_quorum grid state 1 ∷ []) its (from_volume v (no_quorum grid state 1 ∷ []) last)
    by other its = absurd its

-- what a request is told that is not refused
begun_told : (grid : Grid) (state : State) (k : ℕ) (line : Line) → IsRequestOf k line → (session_step grid state line).told ≢ Refused Busy
begun_told grid state k (Write s v f bytes) its h = let bad : Began _ _ _ ≡ Refused Busy = h in cc
begun_told grid state k (Read s v f) its h = let bad : Began _ _ _ ≡ Refused Busy = h in cc
begun_told grid state k (ListFiles s v) its h = let bad : Began _ _ _ ≡ Refused Busy = h in cc
begun_told grid state k other its h = absurd its

unless_busy : (cause : Option Refusal) (s : Step) → cause ≢ Some Busy → s.told ≢ Refused Busy → (unless cause s).told ≢ Refused Busy
unless_busy None s other told h = told h
unless_busy (Some word) s other told h = let same : Refused word ≡ Refused Busy = h in other (let words : word ≡ Busy = cc in ap Some words)

request_step : (grid : Grid) (row : TenantRow) (state : State) (k : ℕ) (line : Line) → IsRequestOf k line → line_step grid row state line ≡ unless (first_cause (session_causes grid row state line)) (session_step grid state line)
request_step grid row state k (Write s v f bytes) its = refl
request_step grid row state k (Read s v f) its = refl
request_step grid row state k (ListFiles s v) its = refl
request_step grid row state k other its = absurd its

-- a session without an operation is not told that it is busy
not_told_busy : (grid : Grid) (row : TenantRow) (p : Past) (k : ℕ) (line : Line) → IsRequestOf k line → current p.trace k ≡ None → said grid row p (Own line) ≢ Refused Busy
not_told_busy grid row p k line its idle h = by (nat_le row.steps (min row.steps p.lines)) refl
  where
    state : State
    state = questions p.trace

    by : (b : Bool) → nat_le row.steps (min row.steps p.lines) ≡ b → ⊥
    by true e =
        let spent : step_at grid row p (Own line) ≡ quiet (Refused Spent) = rw e refl in
        let bad : Refused Spent ≡ Refused Busy = ap (λ s. s.told) (sym spent) ∙ h in cc
    by false e =
        let is : step_at grid row p (Own line) ≡ line_step grid row state line = rw e refl in
        let told : (line_step grid row state line).told ≡ Refused Busy = ap (λ s. s.told) (sym is) ∙ h in
        unless_busy (first_cause (session_causes grid row state line)) (session_step grid state line) (no_cause_busy grid row state k line its idle) (begun_told grid state k line its)
        (ap (λ s. s.told) (sym (request_step grid row state k line its)) ∙ told)

abandons : (grid : Grid) (row : TenantRow) (p : Past) (k : ℕ) (task : Task) → IsRun grid row p.trace → current p.trace k ≡ Some task → p.lines + 1 ≤ row.steps → Frees grid row p k
abandons grid row p k task run has steps = record {
  told = goes.told;
  idle = ap (λ q. operation (questions q.trace) k) goes.then_is ∙ operation_ends (questions p.trace) e k does;
  free = λ line its. not_told_busy grid row (after grid row p (Own (Abandon k))) k line its (ap (λ q. current q.trace k) goes.then_is ∙ ended);
}
  where
    e : Entry
    e = record { turn = Own (Abandon k); message = None; told = Abandoned; new = [] }

    inside : is_in 1 row.sessions k ≡ true
    inside = (while_going grid row p.trace run k task has).in_range

    goes : Accepted grid row p (Abandon k) e
    goes = accepted_as grid row p (Abandon k) None (quiet Abandoned) (omega arith) (rw (inside, has) refl) refl refl

    does : deed k e ≡ Ends
    does = rw (eq-eqb k k refl) refl

    ended : current (e ∷ p.trace) k ≡ None
    ended = λ i. (session_by (volumes p.trace) k (does i) (session p.trace k)).current

pub all_may_abandon : AllMayAbandon
all_may_abandon grid row turns k o has steps = by (current p.trace k) refl
  where
    p : Past
    p = past_of grid row turns

    by : (task : Option Task) → current p.trace k ≡ task → Frees grid row p k
    by None idle = absurd (let bad : None ≡ Some o = rw idle at has in cc)
    by (Some task) busy = abandons grid row p k task (past_run grid row turns) busy steps
