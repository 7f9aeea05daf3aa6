-- What is known of a going operation: its session is one of the tenant's, and what it heard does not end its round.
-- And of messages: what was not sent is not lost.
use Rattle.std.proofs.Common.{◌≡◌, ℕ, ◌+◌, ◌*◌, ◌<◌, ◌≤◌, Bool, true, false, ◌&&◌, List, [], ◌∷◌, length, refl, sym, ap, ◌∙◌, subst, Option, Some, None, not, eqb, arith}
use Rattle.std.specs.Prelude.{if◌then◌else◌}
use Rattle.std.proofs.lemmas.Bool.{eq-eqb, eqb-true, ne_eqb, not-false, true≢false}
use Rattle.std.proofs.lemmas.List.{length-append}
use Rattle.std.proofs.lemmas.Option.{slice_get_within}
use Rattle.gq_grid.specs.Grid.{Grid, Servers}
use Rattle.gq_tag.specs.Tag.{OwnMessage, to_server}
use Rattle.gq_desk.specs.declared.plans.TenantRow.{TenantRow}
use Rattle.gq_desk.specs.Plans.{is_in}
use Rattle.gq_phase.specs.Phase.{Task, Operation, Heard, HeardStale, HeardNoted, HeardNext, HeardDone, is_collect, ends_round, hear, hear_reply, reply_of, with_reply, is_current, round_done}
use Rattle.gq_phase.proofs.Meeting.{nobody_ends}
use Rattle.gq_model.specs.declared.events.Line.{Line}
use Rattle.gq_model.specs.declared.events.Line.TheVariants.{Write, Read, List as ListFiles, Deliver, Lose, Abandon}
use Rattle.gq_model.specs.declared.events.ServerLine.TheVariants.{Lost as ServerLost}
use Rattle.gq_model.specs.Told.{Told, Noted, Round, Done}
use Rattle.gq_model.specs.Trace.{Turn, Own, Serving, Leaping, Entry, Trace, Deed, Elsewhere, Begins, Hears, Moves, Ends, Leaps, deed, delivered_deed, heard_deed, counts_on, Session, session, session_by, volumes, sent, is_lost, questions, up}
use Rattle.gq_model.specs.Lone.{Cause, is_refusal, lose_told, heard_step, first_cause, session_causes, session_step, line_step, no_session, busy, no_volume, no_file, too_long, no_quorum}
use Rattle.gq_laws.proofs.Words.{deed_on, current, round, heard, message_at, step_on}
use Rattle.gq_laws.proofs.Runs.{Follows, IsRun}
use Rattle.gq_laws.proofs.Acts.{going, deliver_entry, is_own_entry, step_line, no_cause, message_sent}
use Rattle.gq_laws.proofs.Remaining.{LeadsOn, round_leads}

-- what an entry's line is told is no refusal
line_fine : (grid : Grid) (row : TenantRow) (t : Trace) (line : Line) (message : Option OwnMessage) (said : Told) (new : List OwnMessage) →
    Follows grid row t (record { turn = Own line; message = message; told = said; new = new }) → is_refusal (line_step grid row (questions t) line).told ≡ false
line_fine grid row t line message said new follows =
    let fine : is_refusal (step_on grid row follows.lines t (Own line)).told ≡ false = ap is_refusal follows.told ∙ follows.accepted in
    ap (λ s. is_refusal s.told) (sym (step_line grid row follows.lines t line fine)) ∙ fine

-- ---- messages

-- what is lost was sent
lost_was_sent : (grid : Grid) (row : TenantRow) (t : Trace) (e : Entry) (number : ℕ) → Follows grid row t e → e.turn ≡ Own (Lose number) → number < length (sent t)
lost_was_sent grid row t e number follows is = there (message_at t number) refl
  where
    P : Turn → Type 0
    P turn = Follows grid row t (record { turn = turn; message = e.message; told = e.told; new = e.new })

    accepted : is_refusal (lose_told (message_at t number)) ≡ false
    accepted = line_fine grid row t (Lose number) e.message e.told e.new (subst P is follows)

    there : (message : Option OwnMessage) → message_at t number ≡ message → number < length (sent t)
    there None none = absurd (true≢false (ap (λ m. is_refusal (lose_told m)) (sym none) ∙ accepted))
    there (Some l) some = slice_get_within (sent t) number l (message_sent t number l some)

-- a message that was not sent is not lost
pub not_lost : (grid : Grid) (row : TenantRow) (t : Trace) → IsRun grid row t → (n : ℕ) → length (sent t) ≤ n → is_lost t n ≡ false
not_lost grid row [] run n past = refl
not_lost grid row (e ∷ t) run n past = by e.turn refl (not_lost grid row t run.0 n low)
  where
    low : length (sent t) ≤ n
    low = let size : length (sent (e ∷ t)) ≡ length (sent t) + length e.new = length-append (sent t) e.new in omega arith

    by : (turn : Turn) → e.turn ≡ turn → is_lost t n ≡ false → is_lost (e ∷ t) n ≡ false
    by (Own (Lose number)) is before =
        let sent_before = lost_was_sent grid row t e number run.1 is in
        rw (is, ne_eqb number n (λ same. omega (arith, low)), before)
    by other is before = rw is before

-- ---- what began

begins_if : (b : Bool) (line also : Line) → (if b then Begins line else Elsewhere) ≡ Begins also → b ≡ true
begins_if true line also is = refl
begins_if false line also is = absurd (let bad : Elsewhere ≡ Begins also = is in cc)

ends_not : (b : Bool) (also : Line) → (if b then Ends else Elsewhere) ≡ Begins also → ⊥
ends_not true also is = let bad : Ends ≡ Begins also = is in cc
ends_not false also is = let bad : Elsewhere ≡ Begins also = is in cc

leaps_not : (b : Bool) (last number : ℕ) (also : Line) → (if b then Leaps last number else Elsewhere) ≡ Begins also → ⊥
leaps_not true last number also is = let bad : Leaps last number ≡ Begins also = is in cc
leaps_not false last number also is = let bad : Elsewhere ≡ Begins also = is in cc

heard_not : (m : OwnMessage) (told : Told) (also : Line) → heard_deed m told ≡ Begins also → ⊥
heard_not m Noted also is = let bad : Hears m ≡ Begins also = is in cc
heard_not m (Round r tag first count) also is = let bad : Moves m r tag ≡ Begins also = is in cc
heard_not m (Done outcome) also is = let bad : Ends ≡ Begins also = is in cc
heard_not m other also is = let bad : Elsewhere ≡ Begins also = is in cc

delivered_not : (k : ℕ) (message : Option OwnMessage) (told : Told) (also : Line) → delivered_deed k message told ≡ Begins also → ⊥
delivered_not k None told also is = let bad : Elsewhere ≡ Begins also = is in cc
delivered_not k (Some m) told also is = by (not (to_server m.body) && eqb m.session k) is
  where
    by : (b : Bool) → (if b then heard_deed m told else Elsewhere) ≡ Begins also → ⊥
    by true h = heard_not m told also h
    by false h = let bad : Elsewhere ≡ Begins also = h in cc

first_fails : (cause : Cause) (rest : List Cause) → first_cause (cause ∷ rest) ≡ None → cause.0 ≡ false
first_fails cause rest h = go cause.0 refl
  where
    go : (b : Bool) → cause.0 ≡ b → cause.0 ≡ false
    go false e = e
    go true e = absurd (let bad : Some cause.1 ≡ None = rw e at h in cc)

-- an operation begins only in a session of the tenant
pub begins_in_range : (grid : Grid) (row : TenantRow) (t : Trace) (e : Entry) (k : ℕ) (line : Line) → Follows grid row t e → deed_on t k e ≡ Begins line → is_in 1 row.sessions k ≡ true
begins_in_range grid row t e k line follows does = go e.turn e.message e.told e.new follows does
  where
    in_range : (s : ℕ) → not (is_in 1 row.sessions s) ≡ false → eqb s k ≡ true → is_in 1 row.sessions k ≡ true
    in_range s inside same = subst (λ z. is_in 1 row.sessions z ≡ true) (eqb-true s k same) (not-false (is_in 1 row.sessions s) inside)

    go : (turn : Turn) (message : Option OwnMessage) (said : Told) (new : List OwnMessage) → Follows grid row t (record { turn = turn; message = message; told = said; new = new }) →
        deed_on t k (record { turn = turn; message = message; told = said; new = new }) ≡ Begins line → is_in 1 row.sessions k ≡ true
    go (Own (Write s v f bytes)) message said new follows does = in_range s (first_fails (no_session row s) (busy (questions t) s ∷ no_volume (questions t) v ∷ no_file (questions t) v f ∷ too_long (questions t) v f bytes ∷ no_quorum grid (questions t) 1 ∷ []) (no_cause (first_cause (session_causes grid row (questions t) (Write s v f bytes))) (session_step grid (questions t) (Write s v f bytes)) (line_fine grid row t (Write s v f bytes) message said new follows))) (begins_if (eqb s k) (Write s v f bytes) line does)
    go (Own (Read s v f)) message said new follows does = in_range s (first_fails (no_session row s) (busy (questions t) s ∷ no_volume (questions t) v ∷ no_file (questions t) v f ∷ no_quorum grid (questions t) 1 ∷ []) (no_cause (first_cause (session_causes grid row (questions t) (Read s v f))) (session_step grid (questions t) (Read s v f)) (line_fine grid row t (Read s v f) message said new follows))) (begins_if (eqb s k) (Read s v f) line does)
    go (Own (ListFiles s v)) message said new follows does = in_range s (first_fails (no_session row s) (busy (questions t) s ∷ no_volume (questions t) v ∷ no_quorum grid (questions t) 1 ∷ []) (no_cause (first_cause (session_causes grid row (questions t) (ListFiles s v))) (session_step grid (questions t) (ListFiles s v)) (line_fine grid row t (ListFiles s v) message said new follows))) (begins_if (eqb s k) (ListFiles s v) line does)
    go (Own (Abandon s)) message said new follows does = absurd (ends_not (eqb s k) line does)
    go (Own (Deliver n)) message said new follows does = absurd (delivered_not k message said line does)
    go (Leaping s last number) message said new follows does = absurd (leaps_not (eqb s k) last number line does)
    go (Serving (ServerLost n)) message said new follows does = absurd (ends_not (counts_on (sent t) k (session t k) n) line does)
    go other message said new follows does = absurd (let bad : Elsewhere ≡ Begins line = does in cc)

-- ---- what was heard

hears_if : (b : Bool) (d : Deed) (l : OwnMessage) → (if b then d else Elsewhere) ≡ Hears l → d ≡ Hears l
hears_if true d l is = is
hears_if false d l is = absurd (let bad : Elsewhere ≡ Hears l = is in cc)

-- a reply is noted only where the round goes on
noted_goes_on : (grid : Grid) (up : Servers) (o : Operation) (l : OwnMessage) → hear grid up o l ≡ HeardNoted → ends_round grid o.round (hear_reply o.heard (reply_of l)) ≡ false
noted_goes_on grid up o l noted = by (is_current o l) refl (ends_round grid o.round (hear_reply o.heard (reply_of l))) refl
  where
    by : (c : Bool) → is_current o l ≡ c → (b : Bool) → ends_round grid o.round (hear_reply o.heard (reply_of l)) ≡ b → ends_round grid o.round (hear_reply o.heard (reply_of l)) ≡ false
    by c cur false e = e
    by false cur true e = absurd (let bad : HeardStale ≡ HeardNoted = rw cur at noted in cc)
    by true cur true e =
        let done : round_done grid up (with_reply o l) ≡ HeardNoted = rw (cur, e) at noted in
        let P : Heard → Type 0 = λ h. LeadsOn grid up (with_reply o l) h in
        absurd (subst P done (round_leads grid up (with_reply o l)))

-- a delivery by which session m.session hears something
delivered_goes_on : (grid : Grid) (t : Trace) (n : ℕ) (m l : OwnMessage) (task : Task) → deed m.session (deliver_entry grid t n (Some m)) ≡ Hears l → current t m.session ≡ Some task →
    ends_round grid (round t m.session) (hear_reply (heard t m.session) (reply_of l)) ≡ false
delivered_goes_on grid t n m l task does busy = go (to_server m.body) refl
  where
    Result : Type 0
    Result = ends_round grid (round t m.session) (hear_reply (heard t m.session) (reply_of l)) ≡ false

    said : to_server m.body ≡ false → (h : Heard) → hear grid (up t) (going t m.session task) m ≡ h → heard_deed m (heard_step (length (sent t)) h).told ≡ Hears l
    said e h is = let told : deed m.session (deliver_entry grid t n (Some m)) ≡ heard_deed m (heard_step (length (sent t)) h).told = rw (e, eq-eqb m.session m.session refl, busy, is) refl in sym told ∙ does

    by : to_server m.body ≡ false → (h : Heard) → hear grid (up t) (going t m.session task) m ≡ h → Result
    by e HeardStale is = absurd (let bad : Elsewhere ≡ Hears l = said e HeardStale is in cc)
    by e HeardNoted is =
        let hears : Hears m ≡ Hears l = said e HeardNoted is in
        let same : m ≡ l = cc in
        rw (← same) (noted_goes_on grid (up t) (going t m.session task) m is)
    by e (HeardNext r tag messages) is = absurd (let bad : Moves m r tag ≡ Hears l = said e (HeardNext r tag messages) is in cc)
    by e (HeardDone outcome) is = absurd (let bad : Ends ≡ Hears l = said e (HeardDone outcome) is in cc)

    go : (b : Bool) → to_server m.body ≡ b → Result
    go true e = absurd (let bad : Elsewhere ≡ Hears l = rw e at does in cc)
    go false e = by e (hear grid (up t) (going t m.session task) m) refl

-- what a session heard with a reply that was noted does not end its round
hears_goes_on : (grid : Grid) (row : TenantRow) (t : Trace) (e : Entry) (k : ℕ) (l : OwnMessage) (task : Task) → Follows grid row t e → deed_on t k e ≡ Hears l → current t k ≡ Some task →
    ends_round grid (round t k) (hear_reply (heard t k) (reply_of l)) ≡ false
hears_goes_on grid row t e k l task follows does busy = go e.turn e.message e.told e.new follows does
  where
    Result : ℕ → Type 0
    Result s = ends_round grid (round t s) (hear_reply (heard t s) (reply_of l)) ≡ false

    begins_not : (b : Bool) (line : Line) → (if b then Begins line else Elsewhere) ≡ Hears l → ⊥
    begins_not b line is = let bad : Begins line ≡ Hears l = hears_if b (Begins line) l is in cc

    here : (n : ℕ) (m : OwnMessage) → deed k (deliver_entry grid t n (Some m)) ≡ Hears l → (b : Bool) → eqb m.session k ≡ b → Result k
    here n m does true e =
        let same : m.session ≡ k = eqb-true m.session k e in
        let P : ℕ → Type 0 = λ s. deed s (deliver_entry grid t n (Some m)) ≡ Hears l in
        let Q : ℕ → Type 0 = λ s. current t s ≡ Some task in
        subst Result same (delivered_goes_on grid t n m l task (subst P (sym same) does) (subst Q (sym same) busy))
    here n m does false e = absurd (apart (to_server m.body) refl)
      where
        apart : (b : Bool) → to_server m.body ≡ b → ⊥
        apart true is = let bad : Elsewhere ≡ Hears l = rw is at does in cc
        apart false is = let bad : Elsewhere ≡ Hears l = rw (is, e) at does in cc

    of_message : (n : ℕ) (message : Option OwnMessage) → deed k (deliver_entry grid t n message) ≡ Hears l → Result k
    of_message n None does = absurd (let bad : Elsewhere ≡ Hears l = does in cc)
    of_message n (Some m) does = here n m does (eqb m.session k) refl

    go : (turn : Turn) (message : Option OwnMessage) (said : Told) (new : List OwnMessage) → Follows grid row t (record { turn = turn; message = message; told = said; new = new }) →
        deed_on t k (record { turn = turn; message = message; told = said; new = new }) ≡ Hears l → Result k
    go (Own (Write s v f bytes)) message said new follows does = absurd (begins_not (eqb s k) (Write s v f bytes) does)
    go (Own (Read s v f)) message said new follows does = absurd (begins_not (eqb s k) (Read s v f) does)
    go (Own (ListFiles s v)) message said new follows does = absurd (begins_not (eqb s k) (ListFiles s v) does)
    go (Own (Abandon s)) message said new follows does = absurd (let bad : Ends ≡ Hears l = hears_if (eqb s k) Ends l does in cc)
    go (Serving (ServerLost n)) message said new follows does = absurd (let bad : Ends ≡ Hears l = hears_if (counts_on (sent t) k (session t k) n) Ends l does in cc)
    go (Leaping s last number) message said new follows does = absurd (let bad : Leaps last number ≡ Hears l = hears_if (eqb s k) (Leaps last number) l does in cc)
    go (Own (Deliver n)) message said new follows does = of_message n (message_at t n) (ap (deed k) (is_own_entry grid row t (Deliver n) message said new follows) ∙ does)
    go other message said new follows does = absurd (let bad : Elsewhere ≡ Hears l = does in cc)

-- ---- a going operation

pub record WhileGoing (grid : Grid) (row : TenantRow) (t : Trace) (k : ℕ) : Type 0 where
  pub in_range : is_in 1 row.sessions k ≡ true
  pub unended : 0 < grid.rows * grid.cols → ends_round grid (round t k) (heard t k) ≡ false

-- nobody ends no round
none_ends : (grid : Grid) (r : ℕ) → 0 < grid.rows * grid.cols → ends_round grid r [] ≡ false
none_ends grid r some = by (is_collect r) refl
  where
    by : (b : Bool) → is_collect r ≡ b → ends_round grid r [] ≡ false
    by true e = rw e (nobody_ends grid some).0
    by false e = rw e (nobody_ends grid some).1

pub while_going : (grid : Grid) (row : TenantRow) (t : Trace) → IsRun grid row t → (k : ℕ) (task : Task) → current t k ≡ Some task → WhileGoing grid row t k
while_going grid row [] run k task has = absurd (let bad : None ≡ Some task = has in cc)
while_going grid row (e ∷ t) run k task has = by (deed_on t k e) refl (while_going grid row t run.0 k task)
  where
    Unended : Session → Type 0
    Unended s = ends_round grid s.round s.heard ≡ false

    by : (d : Deed) → deed_on t k e ≡ d → (current t k ≡ Some task → WhileGoing grid row t k) → WhileGoing grid row (e ∷ t) k
    by d is before = at d is (λ i. session_by (volumes t) k (is i) (session t k)) before
      where
        at : (d : Deed) → deed_on t k e ≡ d → session (e ∷ t) k ≡ session_by (volumes t) k d (session t k) → (current t k ≡ Some task → WhileGoing grid row t k) → WhileGoing grid row (e ∷ t) k
        at Elsewhere is now before = let was = before (ap (λ s. s.current) (sym now) ∙ has) in record { in_range = was.in_range; unended = λ some. subst Unended (sym now) (was.unended some) }
        at (Begins line) is now before = record { in_range = begins_in_range grid row t e k line run.1 is; unended = λ some. subst Unended (sym now) (none_ends grid 1 some) }
        at (Hears l) is now before =
            let was_busy : current t k ≡ Some task = ap (λ s. s.current) (sym now) ∙ has in
            record { in_range = (before was_busy).in_range; unended = λ some. subst Unended (sym now) (hears_goes_on grid row t e k l task run.1 is was_busy) }
        at (Moves l r tag) is now before = let was = before (ap (λ s. s.current) (sym now) ∙ has) in record { in_range = was.in_range; unended = λ some. subst Unended (sym now) (none_ends grid r some) }
        at Ends is now before = absurd (let bad : None ≡ Some task = ap (λ s. s.current) (sym now) ∙ has in cc)
        at (Leaps last number) is now before = absurd (let bad : None ≡ Some task = ap (λ s. s.current) (sym now) ∙ has in cc)
