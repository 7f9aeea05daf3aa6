-- Lines that are answered until an operation of their session is done complete the operation that it had before them.
use Rattle.std.proofs.Common.{◌≡◌, ◌∙◌, ℕ, ◌<◌, ◌≤◌, Bool, true, false, List, [], ◌∷◌, ◌++◌, Option, Some, None, length, length-drop, take, drop, map, suc, Ok, Err, Result, refl, sym, ap, subst, append_assoc, append-nil, All, arith}
use Rattle.std.specs.List.{position_from}
use Rattle.std.specs.Prelude.{cond, not, ◌==◌, ◌&&◌, ◌-◌, min, nat_le, option_map, slice_get, unwrap_or, is_ok, is_some, if◌then◌else◌, IfOk, IfErr, OnOk}
use Rattle.std.proofs.lemmas.List.{map-append, take_all}
use Rattle.std.proofs.lemmas.List.Concat.{flat_map-append}
use Rattle.std.proofs.lemmas.List.Elements.{All-nil, All-cons, All-head, All-tail, All-append}
use Rattle.std.proofs.lemmas.Bool.{lt-leb, true≢false}
use Rattle.gq_grid.specs.Grid.{Grid, Servers, has_column, has_row}
use Rattle.gq_grid.specs.Sets.{servers}
use Rattle.gq_grid.specs.declared.ServerSet.{ServerSet}
use Rattle.gq_grid.proofs.Agreeing.{least_column_agree, least_row_agree}
use Rattle.gq_tag.specs.Tag.{OwnMessage, to_server}
use Rattle.gq_desk.specs.CheckedPlan.{CheckedPlan, nobody, row_at}
use Rattle.gq_desk.specs.Plans.{is_in, is_of}
use Rattle.gq_desk.specs.declared.plans.TenantRow.{TenantRow}
use Rattle.gq_desk.specs.declared.volumes.VolumeRow.{VolumeRow}
use Rattle.gq_phase.specs.declared.Outcome.{Outcome}
use Rattle.gq_phase.specs.declared.Outcome.TheVariants.{Wrote, Gave, Listed}
use Rattle.gq_phase.specs.Phase.{Task, Writing, Reading, Listing, Operation, Heard, HeardStale, HeardNoted, HeardNext, HeardDone, is_current, ends_round, round_quorum, round_done, hear, with_reply}
use Rattle.gq_model.specs.declared.events.Event.{Event}
use Rattle.gq_model.specs.declared.events.Event.TheVariants.{Tenant}
use Rattle.gq_model.specs.declared.events.Line.{Line}
use Rattle.gq_model.specs.declared.events.Line.TheVariants.{Deliver, Retry}
use Rattle.gq_model.specs.declared.events.Refusal.{Refusal}
use Rattle.gq_model.specs.declared.events.Refusal.TheVariants.{Spent, NoSession, Idle, NoQuorum, NoMessage}
use Rattle.gq_model.specs.Told.{Told, Replied, IsDown, Stale, Noted, Round, Done, Resent, Refused}
use Rattle.gq_model.specs.Trace.{Own, Trace, Past, State, Session, Deed, Elsewhere, Hears, Moves, heard_deed, delivered_deed, session, session_by, volumes, up, lacks, serves, questions, operation, operation_with, own_message_at}
use Rattle.gq_model.specs.Lone.{quiet, after, said, told_from, is_refusal, first_cause, session_causes, retry_step, asked_step, heard_step, deliver_step, line_step, unless}
use Rattle.gq_model.specs.Events.{past_at, answer_to}
use Rattle.gq_laws.specs.Tenants.{answers_from}
use Rattle.gq_laws.specs.Progress.{IsOutcomeOf}
use Rattle.gq_laws.proofs.Remaining.{LeadsOn, round_leads}
use Rattle.gq_laws.proofs.Completing.{has_operation}
use Rattle.gq_world.specs.Tables.{Tables, Stands, up_in}
use Rattle.gq_world.proofs.Channels.{in_grid}
use Rattle.gq_lines.specs.Words.{Word}
use Rattle.gq_lines.specs.Lines.{lines_of}
use Rattle.gq_text.specs.Input.{event_of}
use Rattle.gq_text.specs.PlanText.{plan_of}
use Rattle.gq_script.specs.Alone.{Accepts}
use Rattle.gq_script.specs.Out.{IsPlanFaultOf}
use Rattle.gq_script.specs.declared.script.TheConstants.{MOST_INPUT}
use Rattle.gq_lines.specs.Written.{line_text}
use Rattle.gq_text.specs.Canonical.{line_words}
use Rattle.gq_script.specs.Completing.{missing_newline, own_lines}
use Rattle.gq_script.proofs.Completing.{behind_by, next_told}
use Rattle.gq_finish.specs.declared.finish.Stop.{Stop}
use Rattle.gq_finish.specs.declared.finish.Stop.TheVariants.{Idle as NoOperation, Steps}
use Rattle.gq_script.specs.declared.script.RunFault.{RunFault}
use Rattle.gq_finish.specs.declared.finish.FinishFault.{FinishFault}
use Rattle.gq_finish.specs.declared.finish.FinishFault.TheVariants.{Run, Name, Session as NotThere, Idle as NoneThere, Row, Column, Both, Steps as TooFew, NoEnd}
use Rattle.gq_finish.specs.Finishing.{CauseOf, FinishOf, HasCause, IsOfOutput, finishing, goes_on, operation_left, outcome_session, up_after, Ends, Finishes, Finished, IsEnd, RunsOut, StopsFor}

-- ---- the same operation

-- the session has an operation of this outcome
record Has (k : ℕ) (s : Session) (outcome : Outcome) : Type 0 where
  task : Task
  busy : s.current ≡ Some task
  its : IsOutcomeOf (operation_with k s task) outcome

-- nothing began or ended in it
record SameOp (s next : Session) : Type 0 where
  op : next.op ≡ s.op
  current : next.current ≡ s.current

same_outcome : (k : ℕ) (s next : Session) (task : Task) (outcome : Outcome) → next.op ≡ s.op → IsOutcomeOf (operation_with k next task) outcome → IsOutcomeOf (operation_with k s task) outcome
same_outcome k s next (Writing file bytes) (Wrote j n tag) is its = (its.0, its.1 ∙ is)
same_outcome k s next (Reading file) (Gave j n copy) is its = (its.0, its.1 ∙ is)
same_outcome k s next (Listing volume files) (Listed j n rows) is its = (its.0, its.1 ∙ is)
same_outcome k s next _ _ is its = its

had : (k : ℕ) (s next : Session) (outcome : Outcome) → SameOp s next → Has k next outcome → Has k s outcome
had k s next outcome same has = record { task = has.task; busy = sym same.current ∙ has.busy; its = same_outcome k s next has.task outcome same.op has.its }

-- ---- what a line that goes on does in a session

keeps : Deed → Bool
keeps Elsewhere = true
keeps (Hears message) = true
keeps (Moves message round tag) = true
keeps _ = false

same_by : (rows : List VolumeRow) (k : ℕ) (d : Deed) (s : Session) → keeps d ≡ true → SameOp s (session_by rows k d s)
unfolding keeps
same_by rows k Elsewhere s is = record { op = refl; current = refl }
same_by rows k (Hears message) s is = record { op = refl; current = refl }
same_by rows k (Moves message round tag) s is = record { op = refl; current = refl }
same_by rows k _ s is = absurd (true≢false (sym is))

heard_keeps : (m : OwnMessage) (told : Told) → goes_on told ≡ true → keeps (heard_deed m told) ≡ true
unfolding keeps
heard_keeps m (Resent first count) is = refl
heard_keeps m (Replied number) is = refl
heard_keeps m Noted is = refl
heard_keeps m (Round round tag first count) is = refl
heard_keeps m _ is = absurd (true≢false (sym is))

delivery_keeps : (k : ℕ) (message : Option OwnMessage) (told : Told) → goes_on told ≡ true → keeps (delivered_deed k message told) ≡ true
unfolding keeps
delivery_keeps k None told is = refl
delivery_keeps k (Some m) told is = by (not (to_server m.body) && (m.session == k))
  where
    by : (b : Bool) → keeps (cond b (heard_deed m told) Elsewhere) ≡ true
    by true = heard_keeps m told is
    by false = refl

going_is_fine : (told : Told) → goes_on told ≡ true → is_refusal told ≡ false
going_is_fine (Resent first count) is = refl
going_is_fine (Replied number) is = refl
going_is_fine Noted is = refl
going_is_fine (Round round tag first count) is = refl
going_is_fine _ is = absurd (true≢false (sym is))

-- one of the lines that complete an operation
abbrev IsOwn : Line → Type 0
IsOwn (Retry k) = Unit {0}
IsOwn (Deliver n) = Unit {0}
IsOwn _ = ⊥

goes_same : (grid : Grid) (row : TenantRow) (p : Past) (line : Line) (k : ℕ) → IsOwn line → goes_on (said grid row p (Own line)) ≡ true → SameOp (session p.trace k) (session (after grid row p (Own line)).trace k)
unfolding keeps
goes_same grid row p (Retry j) k is going =
    let fine = going_is_fine (said grid row p (Own (Retry j))) going in
    rw fine (record { op = refl; current = refl })
goes_same grid row p (Deliver n) k is going =
    let fine = going_is_fine (said grid row p (Own (Deliver n))) going in
    rw fine (same_by (volumes p.trace) k (delivered_deed k (own_message_at (questions p.trace) n) (said grid row p (Own (Deliver n)))) (session p.trace k) (delivery_keeps k (own_message_at (questions p.trace) n) (said grid row p (Own (Deliver n))) going))
goes_same grid row p _ k is going = absurd is

-- what is told to a line that is not spent
left_told : (grid : Grid) (row : TenantRow) (p : Past) (line : Line) (told : Told) → (Refused Spent ≡ told → ⊥) → said grid row p (Own line) ≡ told → (line_step grid row (questions p.trace) line).told ≡ told
left_told grid row p line told apart is = by (nat_le row.steps (min row.steps p.lines)) is
  where
    by : (b : Bool) → (cond b (quiet (Refused Spent)) (line_step grid row (questions p.trace) line)).told ≡ told → (line_step grid row (questions p.trace) line).told ≡ told
    by true spent = absurd (apart spent)
    by false left = left

-- ---- the line by which an operation is done

-- its session had it
abbrev Owns : Trace → Outcome → Type 0
Owns t outcome = Has (outcome_session outcome) (session t (outcome_session outcome)) outcome

of_session : (o : Operation) (outcome : Outcome) → IsOutcomeOf o outcome → outcome_session outcome ≡ o.session
of_session o outcome its = by o.task outcome its
  where
    by : (task : Task) (outcome : Outcome) → IsOutcomeOf (record { session = o.session; op = o.op; task = task; round = o.round; heard = o.heard; collected = o.collected; floor = o.floor }) outcome → outcome_session outcome ≡ o.session
    by (Writing file bytes) (Wrote j n tag) its = its.0
    by (Reading file) (Gave j n copy) its = its.0
    by (Listing volume files) (Listed j n rows) its = its.0
    by _ _ its = absurd its

heard_done : (grid : Grid) (t : Trace) (k : ℕ) (o : Operation) (m : OwnMessage) (outcome : Outcome) → operation (questions t) k ≡ Some o → (h : Heard) → hear grid (questions t).up o m ≡ h → (first : ℕ) → (heard_step first h).told ≡ Done outcome → IsOutcomeOf o outcome
heard_done grid t k o m outcome has h is first done = by (is_current o m) refl (ends_round grid o.round (with_reply o m).heard) refl
  where
    by : (b : Bool) → is_current o m ≡ b → (e : Bool) → ends_round grid o.round (with_reply o m).heard ≡ e → IsOutcomeOf o outcome
    by false current e ends = let stale : HeardStale ≡ h = rw current at is in let bad : Stale ≡ Done outcome = ap (λ z. (heard_step first z).told) stale ∙ done in absurd (cc)
    by true current false ends = let noted : HeardNoted ≡ h = rw (current, ends) at is in let bad : Noted ≡ Done outcome = ap (λ z. (heard_step first z).told) noted ∙ done in absurd (cc)
    by true current true ends =
        let ended : round_done grid (questions t).up (with_reply o m) ≡ h = rw (current, ends) at is in
        led h (subst (LeadsOn grid (questions t).up (with_reply o m)) ended (round_leads grid (questions t).up (with_reply o m))) done
      where
        led : (h : Heard) → LeadsOn grid (questions t).up (with_reply o m) h → (heard_step first h).told ≡ Done outcome → IsOutcomeOf o outcome
        led HeardStale leads done = absurd leads
        led HeardNoted leads done = absurd leads
        led (HeardNext round tag messages) leads done = absurd (cc)
        led (HeardDone ended) leads done = let same : ended ≡ outcome = cc in subst (IsOutcomeOf o) same leads

owned : (t : Trace) (k : ℕ) (o : Operation) (outcome : Outcome) → operation (questions t) k ≡ Some o → IsOutcomeOf o outcome → Owns t outcome
owned t k o outcome has its =
    let h = has_operation t k o has in
    let same : outcome_session outcome ≡ o.session = of_session o outcome its in
    let P : ℕ → Type 0 = λ j. Has j (session t j) outcome in
    subst P (sym same) (record { task = o.task; busy = h.busy; its = subst (λ (z : Operation). IsOutcomeOf z outcome) (sym h.is) its })

delivered_done : (grid : Grid) (t : Trace) (message : Option OwnMessage) (outcome : Outcome) → (deliver_step grid (questions t) message).told ≡ Done outcome → Owns t outcome
delivered_done grid t None outcome done = let bad : Refused _ ≡ Done outcome = done in absurd (cc)
delivered_done grid t (Some m) outcome done = by (to_server m.body) refl (serves (up t) (lacks t) m.server m.file) refl (operation (questions t) m.session) refl
  where
    by : (b : Bool) → to_server m.body ≡ b → (alive : Bool) → serves (up t) (lacks t) m.server m.file ≡ alive → (o : Option Operation) → operation (questions t) m.session ≡ o → Owns t outcome
    by true goes true alive o is = absurd (let bad : Replied _ ≡ Done outcome = rw (goes, alive) at done in cc)
    by true goes false alive o is = absurd (let bad : IsDown ≡ Done outcome = rw (goes, alive) at done in cc)
    by false goes alive is_up None is = absurd (let bad : Stale ≡ Done outcome = rw (goes, is) at done in cc)
    by false goes alive is_up (Some o) is =
        let told : (heard_step _ (hear grid (questions t).up o m)).told ≡ Done outcome = rw (goes, is) at done in
        owned t m.session o outcome is (heard_done grid t m.session o m outcome is (hear grid (questions t).up o m) refl _ told)

retried_not_done : (grid : Grid) (row : TenantRow) (state : State) (k : ℕ) (outcome : Outcome) → (asked_step grid row state (Retry k)).told ≡ Done outcome → ⊥
retried_not_done grid row state k outcome done = by (first_cause (session_causes grid row state (Retry k))) (operation state k) done
  where
    by : (cause : Option Refusal) (o : Option Operation) → (unless cause (retry_step grid state o)).told ≡ Done outcome → ⊥
    by (Some word) o done = let bad : Refused word ≡ Done outcome = done in cc
    by None None done = let bad : Refused _ ≡ Done outcome = done in cc
    by None (Some o) done = at (round_quorum grid state.up o.round) refl
      where
        at : (q : Option Servers) → round_quorum grid state.up o.round ≡ q → ⊥
        at None is = let bad : Refused _ ≡ Done outcome = rw is at done in cc
        at (Some q) is = let bad : Resent _ _ ≡ Done outcome = rw is at done in cc

done_owns : (grid : Grid) (row : TenantRow) (p : Past) (line : Line) (outcome : Outcome) → IsOwn line → said grid row p (Own line) ≡ Done outcome → Owns p.trace outcome
done_owns grid row p line outcome is done = by line is (left_told grid row p line (Done outcome) (λ (bad : Refused Spent ≡ Done outcome). cc) done)
  where
    by : (line : Line) → IsOwn line → (line_step grid row (questions p.trace) line).told ≡ Done outcome → Owns p.trace outcome
    by (Retry k) is done = absurd (retried_not_done grid row (questions p.trace) k outcome done)
    by (Deliver n) is done = delivered_done grid p.trace (own_message_at (questions p.trace) n) outcome done
    by _ is done = absurd is

-- ---- all lines

all_own : (k : ℕ) (numbers : List ℕ) → All IsOwn (finishing k numbers)
all_own k numbers = All-cons IsOwn (Retry k) (map Deliver numbers) tt (deliveries numbers)
  where
    deliveries : (numbers : List ℕ) → All IsOwn (map Deliver numbers)
    deliveries [] = All-nil IsOwn
    deliveries (n ∷ numbers) = All-cons IsOwn (Deliver n) (map Deliver numbers) tt (deliveries numbers)

all_done : (grid : Grid) (row : TenantRow) (p : Past) (lines : List Line) (before : List Told) (outcome : Outcome) → All IsOwn lines → All (λ told. goes_on told ≡ true) before
    → told_from grid row p (map Own lines) ≡ before ++ Done outcome ∷ [] → Owns p.trace outcome
all_done grid row p [] [] outcome own going told = absurd (cc)
all_done grid row p [] (b ∷ before) outcome own going told = absurd (cc)
all_done grid row p (line ∷ lines) [] outcome own going told =
    let first : said grid row p (Own line) ≡ Done outcome = cc in
    done_owns grid row p line outcome (All-head IsOwn line lines own) first
all_done grid row p (line ∷ lines) (b ∷ before) outcome own going told =
    let first : said grid row p (Own line) ≡ b = cc in
    let rest : told_from grid row (after grid row p (Own line)) (map Own lines) ≡ before ++ Done outcome ∷ [] = cc in
    let goes : goes_on b ≡ true = All-head (λ told. goes_on told ≡ true) b before going in
    let later = all_done grid row (after grid row p (Own line)) lines before outcome (All-tail IsOwn line lines own) (All-tail (λ told. goes_on told ≡ true) b before going) rest in
    had (outcome_session outcome) (session p.trace (outcome_session outcome)) (session (after grid row p (Own line)).trace (outcome_session outcome)) outcome
    (goes_same grid row p line (outcome_session outcome) (All-head IsOwn line lines own) (ap goes_on first ∙ goes)) later

-- the operation that the session had, of which the outcome is
pub record Had (plan : CheckedPlan) (events : List Event) (t k : ℕ) (outcome : Outcome) : Type 0 where
  pub operation : Operation
  pub is : operation_left plan events t k ≡ Some operation
  pub its : IsOutcomeOf operation outcome

pub completed_is : (plan : CheckedPlan) (events : List Event) (t k : ℕ) (numbers : List ℕ) (f : Finishes plan events t k numbers) → Had plan events t k f.outcome
completed_is plan events t k numbers f =
    let told = sym (next_told plan t (finishing k numbers) events) ∙ f.ends.told in
    let owns : Owns (past_at plan t events).trace f.outcome = all_done plan.grid (row_at plan t) (past_at plan t events) (finishing k numbers) f.ends.before f.outcome (all_own k numbers) f.ends.going told in
    let P : ℕ → Type 0 = λ j. Has j (session (past_at plan t events).trace j) f.outcome in
    let has : Has k (session (past_at plan t events).trace k) f.outcome = subst P f.own owns in
    record {
      operation = operation_with k (session (past_at plan t events).trace k) has.task;
      is = ap (option_map (operation_with k (session (past_at plan t events).trace k))) has.busy;
      its = has.its;
    }

-- ---- one line after another

-- the answers to one line more
answers_more : (plan : CheckedPlan) (events more : List Event) (e : Event) → answers_from plan events (more ++ e ∷ []) ≡ answers_from plan events more ++ answer_to plan (events ++ more) e ∷ []
answers_more plan events [] e = ap (λ (before : List Event). answer_to plan before e ∷ []) (sym (append-nil events))
answers_more plan events (first ∷ more) e =
    ap (λ later. answer_to plan events first ∷ later)
    (answers_more plan (events ++ first ∷ []) more e ∙ ap (λ (before : List Event). answers_from plan (events ++ first ∷ []) more ++ answer_to plan before e ∷ []) (append_assoc events (first ∷ []) more))

-- after so many lines the world stands for all of them, they were all answered and written, and the operation goes on
pub record Going (plan : CheckedPlan) (events : List Event) (t k : ℕ) (world : Tables) (old text : List ℕ) : Type 0 where
  pub numbers : List ℕ
  pub going : All (λ told. goes_on told ≡ true) (answers_from plan events (map (Tenant t) (finishing k numbers)))
  pub written : text ≡ old ++ own_lines (row_at plan t).name (finishing k numbers)
  pub stands : Stands world (events ++ map (Tenant t) (finishing k numbers))

-- or it is done
abbrev pub Progress : CheckedPlan → List Event → ℕ → ℕ → Tables → List ℕ → List ℕ → Bool → Type 0
Progress plan events t k world old text true = Finished plan events t k old text
Progress plan events t k world old text false = Going plan events t k world old text

-- ---- the lines of the input

-- the world stands for the events so far, which with the lines that are left are all
pub record Plays (plan : CheckedPlan) (world : Tables) (left all : List (List ℕ)) : Type 0 where
  pub plan_is : world.plan ≡ plan
  pub events : List Event
  pub stands : Stands world events
  pub read : events ++ map (event_of plan) left ≡ map (event_of plan) all

pub plays_first : (world : Tables) (all : List (List ℕ)) → Stands world [] → Plays world.plan world all all
plays_first world all stands = record { plan_is = refl; events = []; stands = stands; read = refl }

pub plays_more : (plan : CheckedPlan) (old new : Tables) (line : List ℕ) (left rest all : List (List ℕ)) (e : Event) → Plays plan old left all → left ≡ line ∷ rest → e ≡ event_of old.plan line → new.plan ≡ old.plan
    → ((events : List Event) → Stands old events → Stands new (events ++ e ∷ [])) → Plays plan new rest all
plays_more plan old new line left rest all e p is reads same stands = record {
  plan_is = same ∙ p.plan_is;
  events = p.events ++ e ∷ [];
  stands = stands p.events p.stands;
  read =
      let event : e ≡ event_of plan line = reads ∙ ap (λ (q : CheckedPlan). event_of q line) p.plan_is in
      append_assoc p.events (e ∷ []) (map (event_of plan) rest) ∙ ap (λ z. p.events ++ z ∷ map (event_of plan) rest) event ∙ ap (λ z. p.events ++ map (event_of plan) z) (sym is) ∙ p.read;
}

pub plays_all : (plan : CheckedPlan) (world : Tables) (rest : List ℕ) (all : List (List ℕ)) → Plays plan world (lines_of rest) all → length rest ≡ 0 → Stands world (map (event_of plan) all)
plays_all plan world [] all p none = subst (Stands world) (sym (append-nil p.events) ∙ p.read) p.stands
plays_all plan world (c ∷ rest) all p none = absurd (omega arith)

-- the text of one line more
text_more : (name : Word) (old text new : List ℕ) (lines : List Line) (line : Line) → text ≡ old ++ own_lines name lines → new ≡ text ++ line_text name (line_words line) → new ≡ old ++ own_lines name (lines ++ line ∷ [])
text_more name old text new lines line is more =
    more ∙ ap (λ z. z ++ line_text name (line_words line)) is ∙ append_assoc old (own_lines name lines) (line_text name (line_words line))
    ∙ ap (λ z. old ++ z) (sym (flat_map-append (λ (l : Line). line_text name (line_words l)) lines (line ∷ []) ∙ ap (λ z. own_lines name lines ++ z) (append-nil (line_text name (line_words line)))))

-- one delivery more
delivered : (k : ℕ) (numbers : List ℕ) (n : ℕ) → finishing k (numbers ++ n ∷ []) ≡ finishing k numbers ++ Deliver n ∷ []
delivered k numbers n = ap (λ z. Retry k ∷ z) (map-append Deliver numbers (n ∷ []))

events_more : (t k : ℕ) (numbers : List ℕ) (n : ℕ) → map (Tenant t) (finishing k (numbers ++ n ∷ [])) ≡ map (Tenant t) (finishing k numbers) ++ Tenant t (Deliver n) ∷ []
events_more t k numbers n = ap (map (Tenant t)) (delivered k numbers n) ∙ map-append (Tenant t) (finishing k numbers) (Deliver n ∷ [])

ends_more : (plan : CheckedPlan) (events : List Event) (t k : ℕ) (world : Tables) (old text : List ℕ) (n : ℕ) (final : Told) → (g : Going plan events t k world old text)
    → answer_to plan (events ++ map (Tenant t) (finishing k g.numbers)) (Tenant t (Deliver n)) ≡ final → Ends plan events t k (g.numbers ++ n ∷ []) final
ends_more plan events t k world old text n final g is = record {
  before = answers_from plan events (map (Tenant t) (finishing k g.numbers));
  going = g.going;
  told =
      ap (answers_from plan events) (events_more t k g.numbers n)
      ∙ answers_more plan events (map (Tenant t) (finishing k g.numbers)) (Tenant t (Deliver n))
      ∙ ap (λ z. answers_from plan events (map (Tenant t) (finishing k g.numbers)) ++ z ∷ []) is;
}

-- what the code then knows of a line, in the world before and after it
pub record Answers (plan : CheckedPlan) (t k : ℕ) (line : Line) (world new : Tables) (text written : List ℕ) (is_done : Bool) : Type 0 where
  pub written_is : written ≡ text ++ line_text (row_at plan t).name (line_words line)
  pub stands : (events : List Event) → Stands world events → Stands new (events ++ Tenant t line ∷ [])
  pub going : is_done ≡ false → (events : List Event) → Stands world events → goes_on (answer_to plan events (Tenant t line)) ≡ true
  pub done : is_done ≡ true → (events : List Event) → Stands world events → IsEnd k (answer_to plan events (Tenant t line))

pub first_goes : (plan : CheckedPlan) (events : List Event) (t k : ℕ) (world new : Tables) (old text : List ℕ) (is_done : Bool) → Stands world events → Answers plan t k (Retry k) world new old text is_done → Progress plan events t k new old text is_done
first_goes plan events t k world new old text false stands a = record {
  numbers = [];
  going = All-cons (λ told. goes_on told ≡ true) (answer_to plan events (Tenant t (Retry k))) [] (a.going refl events stands) (All-nil (λ told. goes_on told ≡ true));
  written = text_more (row_at plan t).name old old text [] (Retry k) (sym (append-nil old)) a.written_is;
  stands = a.stands events stands;
}
first_goes plan events t k world new old text true stands a =
    let end = a.done refl events stands in
    record {
      numbers = [];
      finishes = record { outcome = end.outcome; own = end.own; ends = record { before = []; going = All-nil (λ told. goes_on told ≡ true); told = ap (λ (z : Told). z ∷ []) end.is } };
      written = text_more (row_at plan t).name old old text [] (Retry k) (sym (append-nil old)) a.written_is;
    }

pub next_goes : (plan : CheckedPlan) (events : List Event) (t k n : ℕ) (world new : Tables) (old text written : List ℕ) (is_done : Bool) → Going plan events t k world old text → Answers plan t k (Deliver n) world new text written is_done
    → Progress plan events t k new old written is_done
next_goes plan events t k n world new old text written false g a = record {
  numbers = g.numbers ++ n ∷ [];
  going =
      let P : Told → Type 0 = λ told. goes_on told ≡ true in
      let all = map (Tenant t) (finishing k g.numbers) in
      subst (All P) (sym (ap (answers_from plan events) (events_more t k g.numbers n) ∙ answers_more plan events all (Tenant t (Deliver n))))
      (All-append P (answers_from plan events all) (answer_to plan (events ++ all) (Tenant t (Deliver n)) ∷ []) g.going
      (All-cons P (answer_to plan (events ++ all) (Tenant t (Deliver n))) [] (a.going refl (events ++ all) g.stands) (All-nil P)));
  written = text_more (row_at plan t).name old text written (finishing k g.numbers) (Deliver n) g.written a.written_is ∙ ap (λ z. old ++ own_lines (row_at plan t).name z) (sym (delivered k g.numbers n));
  stands = subst (Stands new) (append_assoc events (map (Tenant t) (finishing k g.numbers)) (Tenant t (Deliver n) ∷ []) ∙ ap (λ z. events ++ z) (sym (events_more t k g.numbers n))) (a.stands (events ++ map (Tenant t) (finishing k g.numbers)) g.stands);
}
next_goes plan events t k n world new old text written true g a =
    let end = a.done refl (events ++ map (Tenant t) (finishing k g.numbers)) g.stands in
    record {
      numbers = g.numbers ++ n ∷ [];
      finishes = record { outcome = end.outcome; own = end.own; ends = ends_more plan events t k world old text n (Done end.outcome) g end.is };
      written = text_more (row_at plan t).name old text written (finishing k g.numbers) (Deliver n) g.written a.written_is ∙ ap (λ z. old ++ own_lines (row_at plan t).name z) (sym (delivered k g.numbers n));
    }

-- ---- refusals

pub first_spent : (plan : CheckedPlan) (events : List Event) (t k : ℕ) → answer_to plan events (Tenant t (Retry k)) ≡ Refused Spent → RunsOut plan events t k
first_spent plan events t k is = record { numbers = []; ends = record { before = []; going = All-nil (λ told. goes_on told ≡ true); told = ap (λ (z : Told). z ∷ []) is } }

pub next_spent : (plan : CheckedPlan) (events : List Event) (t k n : ℕ) (world : Tables) (old text : List ℕ) → (g : Going plan events t k world old text)
    → answer_to plan (events ++ map (Tenant t) (finishing k g.numbers)) (Tenant t (Deliver n)) ≡ Refused Spent → RunsOut plan events t k
next_spent plan events t k n world old text g is = record { numbers = g.numbers ++ n ∷ []; ends = ends_more plan events t k world old text n (Refused Spent) g is }

-- a retry is idle only where there is no operation
retry_idle : (grid : Grid) (row : TenantRow) (state : State) (k : ℕ) → (asked_step grid row state (Retry k)).told ≡ Refused Idle → operation state k ≡ None
retry_idle grid row state k is = by (state.session k).current refl (is_in 1 row.sessions k) refl
  where
    by : (task : Option Task) → (state.session k).current ≡ task → (b : Bool) → is_in 1 row.sessions k ≡ b → operation state k ≡ None
    by None free b inside = rw free refl
    by (Some task) busy false inside = absurd (let bad : Refused NoSession ≡ Refused Idle = rw inside at is in cc)
    by (Some task) busy true inside = at (round_quorum grid state.up (state.session k).round) refl
      where
        at : (q : Option Servers) → round_quorum grid state.up (state.session k).round ≡ q → operation state k ≡ None
        at None none = absurd (let bad : Refused NoQuorum ≡ Refused Idle = rw (inside, busy, none) at is in cc)
        at (Some q) some = absurd (let bad : Resent _ _ ≡ Refused Idle = rw (inside, busy, some) at is in cc)

pub first_idle : (plan : CheckedPlan) (events : List Event) (t k : ℕ) → answer_to plan events (Tenant t (Retry k)) ≡ Refused Idle → operation_left plan events t k ≡ None
first_idle plan events t k is =
    retry_idle plan.grid (row_at plan t) (questions (past_at plan t events).trace) k (left_told plan.grid (row_at plan t) (past_at plan t events) (Retry k) (Refused Idle) (λ (bad : Refused Spent ≡ Refused Idle). cc) is)

-- a delivery never is
heard_not_idle : (first : ℕ) (h : Heard) → (heard_step first h).told ≡ Refused Idle → ⊥
heard_not_idle first HeardStale is = let bad : Stale ≡ Refused Idle = is in cc
heard_not_idle first HeardNoted is = let bad : Noted ≡ Refused Idle = is in cc
heard_not_idle first (HeardNext round tag messages) is = let bad : Round round tag _ _ ≡ Refused Idle = is in cc
heard_not_idle first (HeardDone outcome) is = let bad : Done outcome ≡ Refused Idle = is in cc

deliver_not_idle : (grid : Grid) (state : State) (message : Option OwnMessage) → (deliver_step grid state message).told ≡ Refused Idle → ⊥
deliver_not_idle grid state None is = let bad : Refused NoMessage ≡ Refused Idle = is in cc
deliver_not_idle grid state (Some m) is = by (to_server m.body) refl (serves state.up state.lacks m.server m.file) refl (operation state m.session) refl
  where
    by : (b : Bool) → to_server m.body ≡ b → (alive : Bool) → serves state.up state.lacks m.server m.file ≡ alive → (o : Option Operation) → operation state m.session ≡ o → ⊥
    by true goes true alive o has = let bad : Replied _ ≡ Refused Idle = rw (goes, alive) at is in cc
    by true goes false alive o has = let bad : IsDown ≡ Refused Idle = rw (goes, alive) at is in cc
    by false goes alive is_up None has = let bad : Stale ≡ Refused Idle = rw (goes, has) at is in cc
    by false goes alive is_up (Some o) has = heard_not_idle (length state.sent) (hear grid state.up o m) (rw (goes, has) at is)

pub never_idle : (plan : CheckedPlan) (events : List Event) (t n : ℕ) → answer_to plan events (Tenant t (Deliver n)) ≡ Refused Idle → ⊥
never_idle plan events t n is =
    deliver_not_idle plan.grid (questions (past_at plan t events).trace) (own_message_at (questions (past_at plan t events).trace) n)
    (left_told plan.grid (row_at plan t) (past_at plan t events) (Deliver n) (Refused Idle) (λ (bad : Refused Spent ≡ Refused Idle). cc) is)

-- why it stops
pub stops_first : (plan : CheckedPlan) (events : List Event) (t k : ℕ) (stop : Stop) → (stop ≡ Steps → answer_to plan events (Tenant t (Retry k)) ≡ Refused Spent) → (stop ≡ NoOperation → answer_to plan events (Tenant t (Retry k)) ≡ Refused Idle)
    → StopsFor stop plan events t k
stops_first plan events t k NoOperation spent idle = first_idle plan events t k (idle refl)
stops_first plan events t k Steps spent idle = first_spent plan events t k (spent refl)
stops_first plan events t k _ spent idle = tt

pub stops_next : (plan : CheckedPlan) (events : List Event) (t k n : ℕ) (world : Tables) (old text : List ℕ) (stop : Stop) → Going plan events t k world old text
    → (stop ≡ Steps → (before : List Event) → Stands world before → answer_to plan before (Tenant t (Deliver n)) ≡ Refused Spent)
    → (stop ≡ NoOperation → (before : List Event) → Stands world before → answer_to plan before (Tenant t (Deliver n)) ≡ Refused Idle)
    → StopsFor stop plan events t k
stops_next plan events t k n world old text NoOperation g spent idle = absurd (never_idle plan (events ++ map (Tenant t) (finishing k g.numbers)) t n (idle refl (events ++ map (Tenant t) (finishing k g.numbers)) g.stands))
stops_next plan events t k n world old text Steps g spent idle = next_spent plan events t k n world old text g (spent refl (events ++ map (Tenant t) (finishing k g.numbers)) g.stands)
stops_next plan events t k n world old text _ g spent idle = tt

-- ---- results

pub ok_then : {A E : Type 0} (P Q : A → Type 0) (r : Result A E) → ((x : A) → P x → Q x) → IfOk r P → IfOk r Q
ok_then P Q (Ok x) more h = more x h
ok_then P Q (Err e) more h = tt

pub err_then : {A E : Type 0} (P Q : E → Type 0) (r : Result A E) → ((e : E) → P e → Q e) → IfErr r P → IfErr r Q
err_then P Q (Ok x) more h = tt
err_then P Q (Err e) more h = more e h

pub on_ok_is : {A E : Type 0} (r : Result A E) (new some none text : List ℕ) → new ≡ (if is_ok r then some else none) → some ≡ text → OnOk r (new ≡ text)
on_ok_is (Ok x) new some none text is same = is ∙ same
on_ok_is (Err e) new some none text is same = tt

-- ---- the servers that are up

-- of the set that the tables have, and of what the lines leave, as many rows and columns lie in the one as in the other
pub row_after : (grid : Grid) (set : ServerSet) (up : Servers) → up_in grid set ≡ up → has_row grid (servers set) ≡ has_row grid up
row_after grid set up is = ap is_some (least_row_agree grid (servers set) (up_in grid set) (λ s within. sym (in_grid grid set s within))) ∙ ap (has_row grid) is

pub column_after : (grid : Grid) (set : ServerSet) (up : Servers) → up_in grid set ≡ up → has_column grid (servers set) ≡ has_column grid up
column_after grid set up is = ap is_some (least_column_agree grid (servers set) (up_in grid set) (λ s within. sym (in_grid grid set s within))) ∙ ap (has_column grid) is

-- so whether some row, or some column, is wholly in the set, says whether it is up after the lines
pub row_told : (plan : CheckedPlan) (events : List Event) (grid : Grid) (set : ServerSet) (told is : Bool) → plan.grid ≡ grid → up_in grid set ≡ up_after plan events → told ≡ has_row grid (servers set) → told ≡ is → has_row plan.grid (up_after plan events) ≡ is
row_told plan events grid set told is same up tells test = ap (λ g. has_row g (up_after plan events)) same ∙ sym (row_after grid set (up_after plan events) up) ∙ sym tells ∙ test

pub column_told : (plan : CheckedPlan) (events : List Event) (grid : Grid) (set : ServerSet) (told is : Bool) → plan.grid ≡ grid → up_in grid set ≡ up_after plan events → told ≡ has_column grid (servers set) → told ≡ is → has_column plan.grid (up_after plan events) ≡ is
column_told plan events grid set told is same up tells test = ap (λ g. has_column g (up_after plan events)) same ∙ sym (column_after grid set (up_after plan events) up) ∙ sym tells ∙ test

-- ---- texts

-- the newline that a text misses, by its last byte
abbrev pub newline_of : Option ℕ → List ℕ
newline_of None = []
newline_of (Some x) = cond (x == 10) [] (10 ∷ [])

pub newline_is : (text : List ℕ) → missing_newline text ≡ newline_of (slice_get text (length text - 1))
newline_is [] = refl
newline_is (x ∷ []) = refl
newline_is (x ∷ y ∷ text) =
    let last : length (x ∷ y ∷ text) - 1 ≡ suc (length (y ∷ text) - 1) = omega arith in
    newline_is (y ∷ text) ∙ ap (λ n. newline_of (slice_get (x ∷ y ∷ text) n)) (sym last)

pub newline_some : (text : List ℕ) (x : ℕ) → Some x ≡ slice_get text (length text - 1) → missing_newline text ≡ cond (x == 10) [] (10 ∷ [])
newline_some text x is = newline_is text ∙ ap newline_of (sym is)

pub newline_nothing : (text : List ℕ) → slice_get text (length text - 1) ≡ None → missing_newline text ≡ []
newline_nothing text is = newline_is text ∙ ap newline_of is

-- all that is left of a text
pub rest_of : (n : ℕ) (text : List ℕ) → take (length text - n) (drop n text) ≡ drop n text
rest_of n text = take_all (length text - n) (drop n text) (simp length-drop (omega arith))

-- ---- inputs

-- what was written behind the lines of an input completes the operation
pub finish_of : (name input : List ℕ) (plan : CheckedPlan) (lines : List (List ℕ)) (t k : ℕ) (old text : List ℕ) → length input ≤ MOST_INPUT → plan_of (lines_of input) ≡ Ok (plan, lines) → position_from (is_of name) 0 plan.rows ≡ Some t → t < length plan.rows
    → old ≡ missing_newline input → Finished plan (map (event_of plan) lines) t k old text → FinishOf name k input text
finish_of name input plan lines t k old text small read place within is f =
    let accepts : Accepts input plan lines = record { small = small; read = read } in
    let h = completed_is plan (map (event_of plan) lines) t k f.numbers f.finishes in
    record {
      plan = plan;
      lines = lines;
      accepts = accepts;
      t = t;
      place = place;
      holds = record {
        operation = h.operation;
        going = h.is;
        numbers = f.numbers;
        written = f.written ∙ ap (λ z. z ++ own_lines (row_at plan t).name (finishing k f.numbers)) is;
        completes = behind_by input plan lines t h.operation (Retry k) f.numbers f.finishes.ends.before f.finishes.outcome accepts within (λ fits low. let sessions = fits.sessions in omega (arith, sessions, low)) h.its
            (all_fine f.finishes.ends.before f.finishes.ends.going) f.finishes.ends.told;
      };
    }
  where
    all_fine : (tolds : List Told) → All (λ told. goes_on told ≡ true) tolds → All (λ told. is_refusal told ≡ false) tolds
    all_fine [] going = All-nil (λ told. is_refusal told ≡ false)
    all_fine (told ∷ tolds) going =
        All-cons (λ z. is_refusal z ≡ false) told tolds (going_is_fine told (All-head (λ z. goes_on z ≡ true) told tolds going)) (all_fine tolds (All-tail (λ z. goes_on z ≡ true) told tolds going))

pub cause_has : (name input : List ℕ) (plan : CheckedPlan) (lines : List (List ℕ)) (t k : ℕ) (fault : FinishFault) → length input ≤ MOST_INPUT → plan_of (lines_of input) ≡ Ok (plan, lines) → position_from (is_of name) 0 plan.rows ≡ Some t
    → CauseOf fault plan (map (event_of plan) lines) t k → HasCause name k input fault
cause_has name input plan lines t k (Run fault) small read place cause = subst (IsPlanFaultOf input) (sym cause) tt
cause_has name input plan lines t k Name small read place cause = absurd cause
cause_has name input plan lines t k NotThere small read place cause = record { plan = plan; lines = lines; accepts = record { small = small; read = read }; t = t; place = place; holds = cause }
cause_has name input plan lines t k NoneThere small read place cause = record { plan = plan; lines = lines; accepts = record { small = small; read = read }; t = t; place = place; holds = cause }
cause_has name input plan lines t k TooFew small read place cause = record { plan = plan; lines = lines; accepts = record { small = small; read = read }; t = t; place = place; holds = cause }
cause_has name input plan lines t k Row small read place cause = record { plan = plan; lines = lines; accepts = record { small = small; read = read }; t = t; place = place; holds = cause }
cause_has name input plan lines t k Column small read place cause = record { plan = plan; lines = lines; accepts = record { small = small; read = read }; t = t; place = place; holds = cause }
cause_has name input plan lines t k Both small read place cause = record { plan = plan; lines = lines; accepts = record { small = small; read = read }; t = t; place = place; holds = cause }
cause_has name input plan lines t k NoEnd small read place cause = record { plan = plan; lines = lines; accepts = record { small = small; read = read }; t = t; place = place; holds = cause }

pub cause_is : (plan : CheckedPlan) (events : List Event) (t k : ℕ) (fault : FinishFault) → CauseOf fault plan events t k → IsOfOutput fault
cause_is plan events t k (Run fault) cause = subst (λ (f : RunFault). IsOfOutput (Run f)) (sym cause) tt
cause_is plan events t k Name cause = absurd cause
cause_is plan events t k _ cause = tt

-- a session that is below 1, or above the tenant's, is none of its
pub below_one : (most k : ℕ) → k < 1 → is_in 1 most k ≡ false
below_one most k low = rw (lt-leb 1 k low) refl

pub above_all : (plan : CheckedPlan) (t k : ℕ) (row : TenantRow) → slice_get plan.rows t ≡ Some row → row.sessions < k → is_in 1 (row_at plan t).sessions k ≡ false
above_all plan t k row at high =
    let is : row_at plan t ≡ row = ap (λ o. unwrap_or o nobody) at in
    subst (λ (r : TenantRow). is_in 1 r.sessions k ≡ false) (sym is) (by (nat_le 1 k) (nat_le k row.sessions) (lt-leb k row.sessions high))
  where
    by : (a b : Bool) → b ≡ false → (a && b) ≡ false
    by true b over = over
    by false b over = refl
