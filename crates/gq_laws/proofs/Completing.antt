-- An operation is completed by deliveries: of each message of its round to its server and back, round by round.
use Rattle.std.proofs.Common.{◌≡◌, ◌⊎◌, ℕ, zero, suc, ◌+◌, ◌*◌, ◌<◌, ◌≤◌, Bool, true, false, ◌&&◌, ◌++◌, List, [], ◌∷◌, length, map, refl, sym, ap, ◌∙◌, subst, inl, inr, Option, Some, None, not, eqb, All, arith}
use Rattle.std.specs.Prelude.{slice_get, filter, option_map, fold}
use Rattle.std.specs.List.{range_with_len}
use Rattle.std.proofs.Math.Nat.{suc-mul}
use Rattle.std.proofs.lemmas.Bool.{cases_eq, and_parts, eq-eqb, or_left, or_right, true≢false}
use Rattle.std.proofs.lemmas.List.Elements.{All-nil, All-cons}
use Rattle.std.proofs.lemmas.List.FromFn.{length-range_with_len}
use Rattle.std.proofs.lemmas.List.Sums.{length-filter, count_by-le-length}
use Rattle.std.proofs.lemmas.Option.{slice_get-map}
use Rattle.gq_grid.specs.Grid.{Grid, Servers, below, rising, with_server}
use Rattle.gq_tag.specs.Tag.{OwnMessage}
use Rattle.gq_desk.specs.declared.plans.TenantRow.{TenantRow}
use Rattle.gq_phase.specs.declared.Outcome.{Outcome}
use Rattle.gq_phase.specs.Phase.{Task, Operation, Heard, HeardStale, HeardNoted, HeardNext, HeardDone, is_collect, ends_round, heard_servers, reply_of, hear_current, round_done, round_quorum, round_messages, with_reply, moved}
use Rattle.gq_phase.proofs.Meeting.{rounds_meet, collect_quorums_end, store_quorums_end, quorums_are_up, more_still_end}
use Rattle.gq_phase.proofs.Hearing.{heard_servers-hear}
use Rattle.gq_model.specs.declared.events.Line.{Line}
use Rattle.gq_model.specs.declared.events.Line.TheVariants.{Deliver, Retry}
use Rattle.gq_model.specs.Told.{Told, Noted, Done}
use Rattle.gq_model.specs.Trace.{Turn, Own, Entry, Trace, Past, questions, sent, up, operation}
use Rattle.gq_model.specs.Lone.{after, is_refusal, told_from, heard_step, past_of}
use Rattle.gq_laws.specs.Progress.{IsOutcomeOf, Completes, QuorumsUp, HaveFiles, rounds_left, deliveries_left, AllOperationsComplete}
use Rattle.gq_laws.proofs.Acts.{going, back}
use Rattle.gq_laws.proofs.Runs.{IsRun}
use Rattle.gq_laws.proofs.Words.{current}
use Rattle.gq_laws.proofs.Pasts.{past_run}
use Rattle.gq_laws.proofs.Remaining.{LeadsOn, round_leads}
use Rattle.gq_laws.proofs.Going.{while_going, not_lost}
use Rattle.gq_laws.proofs.OwnLines.{slice_left, slice_right, with_entry, Accepted, Ongoing, Answers, message_to, retry_entry, retries, serve_entry, serves, back_comes, heard_entry, notes, moves, finishes}

-- ---- deliveries that complete an operation

-- the turns in which these messages are delivered
abbrev deliveries : List ℕ → List Turn
deliveries numbers = map Own (map Deliver numbers)

-- from a past on, at most so many deliveries by which the operation comes to its end
pub record Deliveries (grid : Grid) (row : TenantRow) (first : ℕ) (o : Operation) (p : Past) (most : ℕ) : Type 0 where
  numbers : List ℕ
  few : length numbers ≤ most
  own : All (λ number. first ≤ number) numbers
  before : List Told
  outcome : Outcome
  told : told_from grid row p (deliveries numbers) ≡ before ++ Done outcome ∷ []
  accepted : All (λ word. is_refusal word ≡ false) before
  its : IsOutcomeOf o outcome
  idle : operation (questions (fold (after grid row) p (deliveries numbers)).trace) o.session ≡ None

with_more : (grid : Grid) (row : TenantRow) (first : ℕ) (o : Operation) (p : Past) (fewer most : ℕ) → fewer ≤ most → Deliveries grid row first o p fewer → Deliveries grid row first o p most
with_more grid row first o p fewer most low w = record { numbers = w.numbers; few = (let few = w.few in omega arith); own = w.own; before = w.before; outcome = w.outcome; told = w.told; accepted = w.accepted; its = w.its; idle = w.idle }

-- a delivery, and then the rest
deliver_first : (grid : Grid) (row : TenantRow) (first : ℕ) (o : Operation) (p : Past) (n : ℕ) (e : Entry) (most : ℕ) → Accepted grid row p (Deliver n) e → first ≤ n → Deliveries grid row first o (with_entry p e) most → Deliveries grid row first o p (most + 1)
deliver_first grid row first o p n e most a late w = record {
  numbers = n ∷ w.numbers;
  few = (let few = w.few in omega arith);
  own = All-cons (λ number. first ≤ number) n w.numbers late w.own;
  before = e.told ∷ w.before;
  outcome = w.outcome;
  told = (λ i. a.told i ∷ told_from grid row (a.then_is i) (deliveries w.numbers)) ∙ ap (λ z. e.told ∷ z) w.told;
  accepted = All-cons (λ word. is_refusal word ≡ false) e.told w.before a.fine w.accepted;
  its = w.its;
  idle = ap (λ z. operation (questions (fold (after grid row) z (deliveries w.numbers)).trace) o.session) a.then_is ∙ w.idle;
}

-- the last delivery
deliver_last : (grid : Grid) (row : TenantRow) (first : ℕ) (o : Operation) (p : Past) (n : ℕ) (e : Entry) (outcome : Outcome) → Accepted grid row p (Deliver n) e → first ≤ n → e.told ≡ Done outcome → IsOutcomeOf o outcome → operation (questions (e ∷ p.trace)) o.session ≡ None → Deliveries grid row first o p 1
deliver_last grid row first o p n e outcome a late done its idle = record {
  numbers = n ∷ [];
  few = omega arith;
  own = All-cons (λ number. first ≤ number) n [] late (All-nil (λ number. first ≤ number));
  before = [];
  outcome = outcome;
  told = ap (λ z. z ∷ []) (a.told ∙ done);
  accepted = All-nil (λ word. is_refusal word ≡ false);
  its = its;
  idle = ap (λ z. operation (questions z.trace) o.session) a.then_is ∙ idle;
}

-- ---- servers that were not heard

filter_passes : (p : ℕ → Bool) (xs : List ℕ) (i s : ℕ) → slice_get (filter p xs) i ≡ Some s → p s ≡ true
filter_passes p [] i s h = absurd (let bad : None ≡ Some s = h in cc)
filter_passes p (x ∷ xs) i s h = by (p x) refl i h (filter_passes p xs)
  where
    by : (b : Bool) → p x ≡ b → (i : ℕ) → slice_get (filter p (x ∷ xs)) i ≡ Some s → ((i s : ℕ) → slice_get (filter p xs) i ≡ Some s → p s ≡ true) → p s ≡ true
    by false e i h later = later i s (rw e at h)
    by true e zero h later = let here : Some x ≡ Some s = rw e at h in let same : x ≡ s = cc in rw (← same) e
    by true e (suc i) h later = later i s (rw e at h)

filter_keeps : (p : ℕ → Bool) (a n s : ℕ) → a ≤ s → s < a + n → p s ≡ true → (i : ℕ) × (slice_get (filter p (range_with_len a n)) i ≡ Some s)
filter_keeps p a zero s low high e = absurd (omega arith)
filter_keeps p a (suc n) s low high e = by (cases_eq a s) (p a) refl (λ (late : a + 1 ≤ s) (soon : s < a + 1 + n). filter_keeps p (a + 1) n s late soon e)
  where
    Result : Type 0
    Result = (i : ℕ) × (slice_get (filter p (range_with_len a (suc n))) i ≡ Some s)

    by : (a ≡ s) ⊎ (a ≡ s → ⊥) → (b : Bool) → p a ≡ b → (a + 1 ≤ s → s < a + 1 + n → (i : ℕ) × (slice_get (filter p (range_with_len (a + 1) n)) i ≡ Some s)) → Result
    by (inl same) true f later = (0, (rw f (ap Some same)))
    by (inl same) false f later = absurd (true≢false (sym e ∙ ap p (sym same) ∙ f))
    by (inr ne) true f later = let at = later (omega arith) (omega arith) in (suc at.0, (rw f at.1))
    by (inr ne) false f later = let at = later (omega arith) (omega arith) in (at.0, (rw f at.1))

-- ---- a round

-- the round's messages to these servers, which are up, stand from place n on
abbrev pub Waits : Servers → List OwnMessage → ℕ → Operation → List ℕ → Type 0
Waits alive messages n o servers = (i server : ℕ) → slice_get servers i ≡ Some server → (slice_get messages (n + i) ≡ Some (message_to o server)) × (alive server ≡ true)

-- each server of the quorum was heard, or is one of these
abbrev pub Covered : Grid → Servers → Operation → List ℕ → Type 0
Covered grid quorum o servers = (server : ℕ) → server < grid.rows * grid.cols → quorum server ≡ true → (heard_servers o.heard server ≡ true) ⊎ ((i : ℕ) × (slice_get servers i ≡ Some server))

-- after this past the operation is going, and the messages of its round to all servers of a quorum that were not heard
-- can be delivered
pub record Deliverable (grid : Grid) (row : TenantRow) (alive : Servers) (first : ℕ) (p : Past) (o : Operation) : Type 0 where
  pub standing : Ongoing grid row alive first p o
  pub quorum : Servers
  pub chosen : round_quorum grid alive o.round ≡ Some quorum
  pub servers : List ℕ
  pub many : length servers ≤ grid.rows * grid.cols
  pub place : ℕ
  pub late : first ≤ place
  pub waits : Waits alive (sent p.trace) place o servers
  pub covered : Covered grid quorum o servers

-- the same operation, perhaps in another round
pub record SameOperation (first now : Operation) : Type 0 where
  session : now.session ≡ first.session
  its : (outcome : Outcome) → IsOutcomeOf now outcome → IsOutcomeOf first outcome

-- what comes after the round: the operation in any later round is completed by at most so many lines
abbrev pub Later : Grid → TenantRow → Servers → ℕ → Operation → ℕ → ℕ → ℕ → Type 0
Later grid row alive first origin bound from most =
    (o : Operation) (p : Past) → SameOperation origin o → Deliverable grid row alive first p o → rounds_left o < bound → p.lines ≤ from → Deliveries grid row first origin p most

-- the servers of the quorum end the round
quorum_ends : (grid : Grid) (up quorum : Servers) (o : Operation) → round_quorum grid up o.round ≡ Some quorum → ((server : ℕ) → server < grid.rows * grid.cols → quorum server ≡ true → heard_servers o.heard server ≡ true) → ends_round grid o.round o.heard ≡ true
quorum_ends grid up quorum o chosen all = by (is_collect o.round) refl
  where
    by : (b : Bool) → is_collect o.round ≡ b → ends_round grid o.round o.heard ≡ true
    by true e = rw e ((more_still_end grid quorum (heard_servers o.heard) all).0 (collect_quorums_end grid up quorum (rw e at chosen)))
    by false e = rw e ((more_still_end grid quorum (heard_servers o.heard) all).1 (store_quorums_end grid up quorum (rw e at chosen)))

-- the quorum of a round
quorum_of : (grid : Grid) (alive : Servers) (round : ℕ) → QuorumsUp grid alive → (quorum : Servers) × (round_quorum grid alive round ≡ Some quorum)
quorum_of grid alive round q = by (is_collect round) refl
  where
    by : (b : Bool) → is_collect round ≡ b → (quorum : Servers) × (round_quorum grid alive round ≡ Some quorum)
    by true e = (q.collecting, rw e q.collect_up)
    by false e = (q.storing, rw e q.store_up)

-- its servers are up
quorum_is_up : (grid : Grid) (alive quorum : Servers) (round server : ℕ) → round_quorum grid alive round ≡ Some quorum → quorum server ≡ true → alive server ≡ true
quorum_is_up grid alive quorum round server chosen inside = by (is_collect round) refl
  where
    by : (b : Bool) → is_collect round ≡ b → alive server ≡ true
    by true e = (quorums_are_up grid alive quorum server inside).0 (rw e at chosen)
    by false e = (quorums_are_up grid alive quorum server inside).1 (rw e at chosen)

-- messages of the round that are sent to servers of its quorum, all but some that were heard, can be delivered
pub sent_deliverable : (grid : Grid) (row : TenantRow) (alive : Servers) (first : ℕ) (p : Past) (o : Operation) (quorum set : Servers) (before : List OwnMessage) → Ongoing grid row alive first p o → round_quorum grid alive o.round ≡ Some quorum →
    sent p.trace ≡ before ++ map (message_to o) (rising grid set) → first ≤ length before → ((server : ℕ) → set server ≡ true → quorum server ≡ true) → ((server : ℕ) → quorum server ≡ true → (heard_servers o.heard server ≡ true) ⊎ (set server ≡ true)) →
    Deliverable grid row alive first p o
sent_deliverable grid row alive first p o quorum set before standing chosen sent_is low inside all = record {
  standing = standing;
  quorum = quorum;
  chosen = chosen;
  servers = rising grid set;
  many = (let passing = length-filter set (below (grid.rows * grid.cols)) in let few = count_by-le-length set (below (grid.rows * grid.cols)) in let count = length-range_with_len 0 (grid.rows * grid.cols) in omega arith);
  place = length before;
  late = low;
  waits = λ i server at. (
    ap (λ z. slice_get z (length before + i)) sent_is ∙ slice_right before (map (message_to o) (rising grid set)) (length before + i) i refl ∙ slice_get-map (message_to o) (rising grid set) i ∙ ap (option_map (message_to o)) at,
    quorum_is_up grid alive quorum o.round server chosen (inside server (filter_passes set (below (grid.rows * grid.cols)) i server at)),
  );
  covered = λ server within of_quorum. by server within (all server of_quorum);
}
  where
    by : (server : ℕ) → server < grid.rows * grid.cols → (heard_servers o.heard server ≡ true) ⊎ (set server ≡ true) → (heard_servers o.heard server ≡ true) ⊎ ((i : ℕ) × (slice_get (rising grid set) i ≡ Some server))
    by server within (inl heard) = inl heard
    by server within (inr is) = inr (filter_keeps set 0 (grid.rows * grid.cols) server (omega arith) (omega arith) is)

-- so can the messages with which its round begins
pub round_deliverable : (grid : Grid) (row : TenantRow) (alive : Servers) (first : ℕ) (p : Past) (o : Operation) (before messages : List OwnMessage) → QuorumsUp grid alive → Ongoing grid row alive first p o →
    sent p.trace ≡ before ++ messages → first ≤ length before → messages ≡ round_messages grid alive o → Deliverable grid row alive first p o
round_deliverable grid row alive first p o before messages q standing sent_is low is =
    sent_deliverable grid row alive first p o q_of.0 q_of.0 before standing q_of.1 (sent_is ∙ ap (λ z. before ++ z) (is ∙ all)) low (λ server inside. inside) (λ server inside. inr inside)
  where
    q_of : (quorum : Servers) × (round_quorum grid alive o.round ≡ Some quorum)
    q_of = quorum_of grid alive o.round q

    all : round_messages grid alive o ≡ map (message_to o) (rising grid q_of.0)
    all = rw q_of.1 refl

-- the operation is completed from a past on by deliveries to these servers and back, and by what comes after the round
abbrev pub Delivers : Grid → TenantRow → Servers → ℕ → Operation → Servers → ℕ → ℕ → ℕ → List ℕ → Type 0
Delivers grid row alive first origin quorum bound from most servers =
    (n : ℕ) (o : Operation) (p : Past) → SameOperation origin o → Ongoing grid row alive first p o → rounds_left o ≡ bound → first ≤ n → Waits alive (sent p.trace) n o servers → Covered grid quorum o servers →
    round_quorum grid alive o.round ≡ Some quorum → ends_round grid o.round o.heard ≡ false → p.lines + 2 * length servers ≤ from → Deliveries grid row first origin p (2 * length servers + most)

-- one server more
deliver_one : (grid : Grid) (row : TenantRow) (alive : Servers) (first : ℕ) (origin : Operation) (quorum : Servers) (bound from most : ℕ) → QuorumsUp grid alive → from ≤ row.steps → Later grid row alive first origin bound from most →
    (server : ℕ) (servers : List ℕ) → Delivers grid row alive first origin quorum bound from most servers → Delivers grid row alive first origin quorum bound from most (server ∷ servers)
deliver_one grid row alive first origin quorum bound from most q enough later server servers others n o p same s is_bound late waits covered chosen unended few =
    with_more grid row first origin p (2 * length servers + most + 1 + 1) (2 * length (server ∷ servers) + most) (omega arith)
    (deliver_first grid row first origin p n e (2 * length servers + most + 1) served.0 late (come (ends_round grid o.round (with_reply o l).heard) refl))
  where
    m : OwnMessage
    m = message_to o server

    l : OwnMessage
    l = back p.trace m

    e : Entry
    e = serve_entry p.trace n m

    p1 : Past
    p1 = with_entry p e

    at : slice_get (sent p.trace) n ≡ Some m
    at = let here : n + 0 ≡ n = omega arith in subst (λ z. slice_get (sent p.trace) z ≡ Some m) here (waits 0 server refl).0

    served : Accepted grid row p (Deliver n) e × Ongoing grid row alive first p1 o
    served = serves grid row alive first p o n server s (omega arith) late at (waits 0 server refl).1

    n1 : ℕ
    n1 = length (sent p.trace)

    at1 : slice_get (sent p1.trace) n1 ≡ Some l
    at1 = slice_right (sent p.trace) (l ∷ []) (length (sent p.trace)) 0 (omega arith)

    answers : Answers o l
    answers = record { session = refl; op = refl; round = refl; reply = back_comes p.trace m }

    -- the round goes on
    noted : ends_round grid o.round (with_reply o l).heard ≡ false → Deliveries grid row first origin p1 (2 * length servers + most + 1)
    noted goes =
        deliver_first grid row first origin p1 n1 e2 (2 * length servers + most) two.0 s.low
        (others (n + 1) (with_reply o l) (with_entry p1 e2) (record { session = same.session; its = same.its }) two.1 is_bound (omega arith) still_waits still_covered chosen goes (omega arith))
      where
        e2 : Entry
        e2 = heard_entry n1 l (record { told = Noted; new = [] })

        two : Accepted grid row p1 (Deliver n1) e2 × Ongoing grid row alive first (with_entry p1 e2) (with_reply o l)
        two = notes grid row alive first p1 o n1 l served.1 (omega arith) s.low at1 answers (rw goes refl)

        still_waits : Waits alive (sent (with_entry p1 e2).trace) (n + 1) (with_reply o l) servers
        still_waits i other is =
            let was = waits (suc i) other is in
            let place : n + suc i ≡ n + 1 + i = omega arith in (
              slice_left (sent p1.trace) [] (n + 1 + i) (message_to o other) (slice_left (sent p.trace) (l ∷ []) (n + 1 + i) (message_to o other) (subst (λ z. slice_get (sent p.trace) z ≡ Some (message_to o other)) place was.0)),
              was.1,
            )

        still_covered : Covered grid quorum (with_reply o l) servers
        still_covered other within inside = by (covered other within inside)
          where
            Heard_now : Type 0
            Heard_now = heard_servers (with_reply o l).heard other ≡ true

            hears : heard_servers (with_reply o l).heard other ≡ with_server server (heard_servers o.heard) other
            hears = ap (λ f. f other) (heard_servers-hear o.heard (reply_of l))

            by : (heard_servers o.heard other ≡ true) ⊎ ((i : ℕ) × (slice_get (server ∷ servers) i ≡ Some other)) → (heard_servers (with_reply o l).heard other ≡ true) ⊎ ((i : ℕ) × (slice_get servers i ≡ Some other))
            by (inl before) = inl (hears ∙ or_left (heard_servers o.heard other) (eqb server other) before)
            by (inr (zero, is)) = let one : server ≡ other = cc in inl (hears ∙ or_right (heard_servers o.heard other) (eqb server other) (eq-eqb server other one))
            by (inr (suc i, is)) = inr (i, is)

    -- the round ends
    ended : (h : Heard) → hear_current grid alive (with_reply o l) ≡ h → LeadsOn grid alive (with_reply o l) h → Deliveries grid row first origin p1 (2 * length servers + most + 1)
    ended HeardStale is leads = absurd leads
    ended HeardNoted is leads = absurd leads
    ended (HeardNext r tag messages) is leads =
        let rounds : rounds_left (with_reply o l) ≡ bound = is_bound in
        let fewer : rounds_left (moved o l r tag) < rounds_left (with_reply o l) = leads.0 in
        let two = moves grid row alive first p1 o n1 l r tag messages served.1 (omega arith) s.low at1 answers is in
        let e2 : Entry = heard_entry n1 l (heard_step (length (sent p1.trace)) (HeardNext r tag messages)) in
        let ready : Deliverable grid row alive first (with_entry p1 e2) (moved o l r tag) = round_deliverable grid row alive first (with_entry p1 e2) (moved o l r tag) (sent p1.trace) messages q two.1 refl served.1.low leads.1 in
        with_more grid row first origin p1 (most + 1) (2 * length servers + most + 1) (omega arith)
        (deliver_first grid row first origin p1 n1 e2 most two.0 s.low
        (later (moved o l r tag) (with_entry p1 e2) (record { session = same.session; its = same.its }) ready (omega arith) (omega arith)))
    ended (HeardDone outcome) is leads =
        let two = finishes grid row alive first p1 o n1 l outcome served.1 (omega arith) s.low at1 answers is in
        let e2 : Entry = heard_entry n1 l (record { told = Done outcome; new = [] }) in
        with_more grid row first origin p1 1 (2 * length servers + most + 1) (omega arith)
        (deliver_last grid row first origin p1 n1 e2 outcome two.0 s.low refl (same.its outcome leads)
        (ap (operation (questions (e2 ∷ p1.trace))) (sym same.session) ∙ two.1))

    come : (b : Bool) → ends_round grid o.round (with_reply o l).heard ≡ b → Deliveries grid row first origin p1 (2 * length servers + most + 1)
    come false goes = noted goes
    come true ends =
        let says : hear_current grid alive (with_reply o l) ≡ round_done grid alive (with_reply o l) = rw ends refl in
        ended (round_done grid alive (with_reply o l)) says (round_leads grid alive (with_reply o l))

-- no server is left only where the round has ended
deliver_none : (grid : Grid) (row : TenantRow) (alive : Servers) (first : ℕ) (origin : Operation) (quorum : Servers) (bound from most : ℕ) → Delivers grid row alive first origin quorum bound from most []
deliver_none grid row alive first origin quorum bound from most n o p same s is_bound late waits covered chosen unended few =
    absurd (true≢false (sym (quorum_ends grid alive quorum o chosen heard) ∙ unended))
  where
    heard : (server : ℕ) → server < grid.rows * grid.cols → quorum server ≡ true → heard_servers o.heard server ≡ true
    heard server within inside = by (covered server within inside)
      where
        by : (heard_servers o.heard server ≡ true) ⊎ ((i : ℕ) × (slice_get [] i ≡ Some server)) → heard_servers o.heard server ≡ true
        by (inl h) = h
        by (inr (i, is)) = absurd (let bad : None ≡ Some server = is in cc)

delivers : (grid : Grid) (row : TenantRow) (alive : Servers) (first : ℕ) (origin : Operation) (quorum : Servers) (bound from most : ℕ) → QuorumsUp grid alive → from ≤ row.steps → Later grid row alive first origin bound from most →
    (servers : List ℕ) → Delivers grid row alive first origin quorum bound from most servers
delivers grid row alive first origin quorum bound from most q enough later [] = deliver_none grid row alive first origin quorum bound from most
delivers grid row alive first origin quorum bound from most q enough later (server ∷ servers) =
    deliver_one grid row alive first origin quorum bound from most q enough later server servers (delivers grid row alive first origin quorum bound from most q enough later servers)

-- ---- round by round

-- where both are up the grid has a server
some_server : (grid : Grid) (alive : Servers) → QuorumsUp grid alive → 0 < grid.rows * grid.cols
some_server grid alive q =
    let both = rounds_meet grid q.collecting q.storing (collect_quorums_end grid alive q.collecting q.collect_up) (store_quorums_end grid alive q.storing q.store_up) in
    let within = both.1 in
    omega arith

rounds_positive : (o : Operation) → 0 < rounds_left o
rounds_positive o = by (is_collect o.round) refl
  where
    by : (b : Bool) → is_collect o.round ≡ b → 0 < rounds_left o
    by true e = rw e (omega arith)
    by false e = rw e (omega arith)

-- so many deliveries does a round take at most
abbrev round_deliveries : Grid → ℕ
round_deliveries grid = 2 * (grid.rows * grid.cols)

abbrev CompletesIn : Grid → TenantRow → Servers → ℕ → Operation → ℕ → Type 0
CompletesIn grid row alive first origin rounds =
    (o : Operation) (p : Past) → SameOperation origin o → Deliverable grid row alive first p o → rounds_left o ≤ rounds → p.lines + rounds * round_deliveries grid ≤ row.steps → Deliveries grid row first origin p (rounds * round_deliveries grid)

-- the deliveries of a round, and what comes after it
one_round : (grid : Grid) (row : TenantRow) (alive : Servers) (first : ℕ) (origin : Operation) → QuorumsUp grid alive → (rounds : ℕ) → CompletesIn grid row alive first origin rounds → CompletesIn grid row alive first origin (suc rounds)
one_round grid row alive first origin q rounds rest o p same ready low steps =
    with_more grid row first origin p (2 * length servers + rounds * round_deliveries grid) (suc rounds * round_deliveries grid) (omega (arith, many, suc-mul rounds (round_deliveries grid)))
    (delivers grid row alive first origin ready.quorum (rounds_left o) (p.lines + 2 * length servers) (rounds * round_deliveries grid) q (omega (arith, many, suc-mul rounds (round_deliveries grid))) later servers
    ready.place o p same s refl ready.late ready.waits ready.covered ready.chosen unended (omega arith))
  where
    s : Ongoing grid row alive first p o
    s = ready.standing

    servers : List ℕ
    servers = ready.servers

    many : length servers ≤ grid.rows * grid.cols
    many = ready.many

    unended : ends_round grid o.round o.heard ≡ false
    unended = ap (λ z. ends_round grid z.round z.heard) (sym s.is) ∙ (while_going grid row p.trace s.run o.session o.task s.busy).unended (some_server grid alive q)

    later : Later grid row alive first origin (rounds_left o) (p.lines + 2 * length servers) (rounds * round_deliveries grid)
    later next now also waiting fewer soon = rest next now also waiting (omega arith) (omega (arith, many, suc-mul rounds (round_deliveries grid)))

completes_in : (grid : Grid) (row : TenantRow) (alive : Servers) (first : ℕ) (origin : Operation) → QuorumsUp grid alive → (rounds : ℕ) → CompletesIn grid row alive first origin rounds
completes_in grid row alive first origin q zero o p same s low steps = absurd (omega (arith, rounds_positive o))
completes_in grid row alive first origin q (suc rounds) o p same s low steps = one_round grid row alive first origin q rounds (completes_in grid row alive first origin q rounds) o p same s low steps

-- ---- a line, and then deliveries

-- a line after which the operation's messages can be delivered
pub completes_after : (grid : Grid) (row : TenantRow) (p : Past) (o : Operation) (line : Line) (e : Entry) → QuorumsUp grid (up p.trace) → Accepted grid row p line e → Deliverable grid row (up p.trace) (length (sent p.trace)) (with_entry p e) o →
    p.lines + (1 + deliveries_left grid o) ≤ row.steps → Completes grid row p o line
completes_after grid row p o line e q a ready steps = by (completes_in grid row (up p.trace) (length (sent p.trace)) o q (rounds_left o) o (with_entry p e) (record { session = refl; its = λ outcome its. its }) ready (omega arith) (omega arith))
  where
    by : Deliveries grid row (length (sent p.trace)) o (with_entry p e) (deliveries_left grid o) → Completes grid row p o line
    by w = record {
      numbers = w.numbers;
      few = w.few;
      own = w.own;
      before = e.told ∷ w.before;
      outcome = w.outcome;
      told = (λ i. a.told i ∷ told_from grid row (a.then_is i) (deliveries w.numbers)) ∙ ap (λ z. e.told ∷ z) w.told;
      its = w.its;
      accepted = All-cons (λ word. is_refusal word ≡ false) e.told w.before a.fine w.accepted;
      idle = ap (λ z. operation (questions (fold (after grid row) z (deliveries w.numbers)).trace) o.session) a.then_is ∙ w.idle;
    }

-- ---- the law

-- the operation that session k has
pub record HasOperation (t : Trace) (k : ℕ) (o : Operation) : Type 0 where
  pub session : o.session ≡ k
  pub busy : current t o.session ≡ Some o.task
  pub is : going t o.session o.task ≡ o

pub has_operation : (t : Trace) (k : ℕ) (o : Operation) → operation (questions t) k ≡ Some o → HasOperation t k o
has_operation t k o has = by (current t k) refl
  where
    P : Operation → Type 0
    P z = HasOperation t k z

    by : (task : Option Task) → current t k ≡ task → HasOperation t k o
    by None idle = absurd (let bad : None ≡ Some o = rw idle at has in cc)
    by (Some task) busy =
        let some : Some (going t k task) ≡ Some o = rw busy at has in
        let same : going t k task ≡ o = cc in
        subst P same (record { session = refl; busy = busy; is = refl })

retry_completes : (grid : Grid) (row : TenantRow) (p : Past) → IsRun grid row p.trace → (o : Operation) → HasOperation p.trace o.session o → QuorumsUp grid (up p.trace) → HaveFiles (questions p.trace) → p.lines + (1 + deliveries_left grid o) ≤ row.steps → Completes grid row p o (Retry o.session)
retry_completes grid row p run o s q have steps = completes_after grid row p o (Retry o.session) e q retried.0 ready steps
  where
    alive : Servers
    alive = up p.trace

    standing : Ongoing grid row alive (length (sent p.trace)) p o
    standing = record { run = run; up_is = refl; whole = have; busy = s.busy; is = s.is; kept = not_lost grid row p.trace run; low = omega arith }

    q_of : (quorum : Servers) × (round_quorum grid alive o.round ≡ Some quorum)
    q_of = quorum_of grid alive o.round q

    e : Entry
    e = retry_entry grid p.trace o q_of.0

    retried : Accepted grid row p (Retry o.session) e × Ongoing grid row alive (length (sent p.trace)) (with_entry p e) o
    retried = retries grid row alive (length (sent p.trace)) p o q_of.0 standing (omega arith) (while_going grid row p.trace run o.session o.task s.busy).in_range q_of.1

    unheard : Servers
    unheard server = q_of.0 server && not (heard_servers o.heard server)

    all : (server : ℕ) → q_of.0 server ≡ true → (heard_servers o.heard server ≡ true) ⊎ (unheard server ≡ true)
    all server inside = by (heard_servers o.heard server) refl
      where
        by : (b : Bool) → heard_servers o.heard server ≡ b → (heard_servers o.heard server ≡ true) ⊎ (unheard server ≡ true)
        by true is = inl is
        by false is = inr (rw (inside, is) refl)

    ready : Deliverable grid row alive (length (sent p.trace)) (with_entry p e) o
    ready = sent_deliverable grid row alive (length (sent p.trace)) (with_entry p e) o q_of.0 unheard (sent p.trace) retried.1 q_of.1 refl (omega arith) (λ server is. (and_parts (q_of.0 server) (not (heard_servers o.heard server)) is).0) all

pub all_operations_complete : AllOperationsComplete
all_operations_complete grid row turns k o has q have steps =
    let p : Past = past_of grid row turns in
    let s = has_operation p.trace k o has in
    let P : ℕ → Type 0 = λ z. Completes grid row p o (Retry z) in
    subst P s.session (retry_completes grid row p (past_run grid row turns) o (record { session = refl; busy = s.busy; is = s.is }) q have steps)
