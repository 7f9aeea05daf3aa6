-- A line of a session, and a letter to one, send letters to servers alone.
use Rattle.std.proofs.Common.{◌≡◌, ℕ, zero, suc, ◌+◌, ◌*◌, Bool, true, false, List, [], ◌∷◌, length, map, Option, Some, None, refl, subst, arith}
use Rattle.std.specs.Prelude.{Contains, nat_lt}
use Rattle.gq_grid.specs.Grid.{Grid, Servers, rising}
use Rattle.gq_tag.specs.declared.StoredCopy.{StoredCopy}
use Rattle.gq_tag.specs.Tag.{OwnMessage, to_server}
use Rattle.gq_phase.specs.Phase.{Task, Writing, Reading, Listing, Reply, Operation, Heard, HeardStale, HeardNoted, HeardNext, HeardDone, is_collect, round_body, messages_to, round_messages, round_quorum, in_round, file_done, collect_done, round_done, hear_current, hear, skips_store, with_decided, ends_round, is_current, with_reply}
use Rattle.gq_model.specs.declared.events.Line.{Line}
use Rattle.gq_model.specs.declared.events.Line.TheVariants.{Write, Read, List as ListFiles, Retry, Abandon}
use Rattle.gq_model.specs.declared.events.Refusal.{Refusal}
use Rattle.gq_model.specs.Trace.{State, operation, task_of}
use Rattle.gq_model.specs.Lone.{Step, unless, first_cause, session_causes, session_step, begin_step, retry_step, hear_step, heard_step, first_operation}
use Rattle.gq_cluster.specs.Cluster.{Setting, Part, Asks, Comes, state_of, step_of}

-- ---- lists of letters

abbrev pub AllAsk : List OwnMessage → Type 0
AllAsk [] = Unit {0}
AllAsk (m ∷ ms) = (to_server m.body ≡ true) × AllAsk ms

pub each_asks : (ms : List OwnMessage) → AllAsk ms → (m : OwnMessage) → Contains ms m → to_server m.body ≡ true
each_asks [] all m within = absurd (omega (arith, within.1))
each_asks (x ∷ ms) all m (zero, low, is) = let P : OwnMessage → Type 0 = λ z. to_server z.body ≡ true in subst P is all.0
each_asks (x ∷ ms) all m (suc i, low, is) = each_asks ms all.1 m (i, omega arith, is)

ask_map : (f : ℕ → OwnMessage) → ((n : ℕ) → to_server (f n).body ≡ true) → (ns : List ℕ) → AllAsk (map f ns)
ask_map f asks [] = tt
ask_map f asks (n ∷ ns) = (asks n, ask_map f asks ns)

-- ---- of an operation

body_asks : (round : ℕ) (collected : List StoredCopy) → to_server (round_body round collected) ≡ true
body_asks round collected = by (is_collect round) refl
  where
    by : (b : Bool) → is_collect round ≡ b → to_server (round_body round collected) ≡ true
    by true e = rw e refl
    by false e = rw e refl

to_asks : (grid : Grid) (o : Operation) (set : Servers) → AllAsk (messages_to grid o set)
to_asks grid o set = ask_map _ (λ n. body_asks o.round o.collected) (rising grid set)

round_asks : (grid : Grid) (up : Servers) (o : Operation) → AllAsk (round_messages grid up o)
round_asks grid up o = by (round_quorum grid up o.round) refl
  where
    by : (q : Option Servers) → round_quorum grid up o.round ≡ q → AllAsk (round_messages grid up o)
    by None is = rw is tt
    by (Some set) is = rw is (to_asks grid o set)

abbrev HeardAsks : Heard → Type 0
HeardAsks (HeardNext round tag messages) = AllAsk messages
HeardAsks _ = Unit {0}

file_asks : (grid : Grid) (up : Servers) (session op : ℕ) (task : Task) (round : ℕ) (heard : List Reply) (collected : List StoredCopy) (floor : ℕ) →
    HeardAsks (file_done grid up (record { session = session; op = op; task = task; round = round; heard = heard; collected = collected; floor = floor }))
file_asks grid up session op (Writing file bytes) round heard collected floor = tt
file_asks grid up session op (Reading file) round heard collected floor = tt
file_asks grid up session op (Listing volume files) round heard collected floor = by (nat_lt (length collected) files) refl
  where
    o : Operation
    o = record { session = session; op = op; task = Listing volume files; round = round; heard = heard; collected = collected; floor = floor }

    by : (b : Bool) → nat_lt (length collected) files ≡ b → HeardAsks (file_done grid up o)
    by true is = rw is (round_asks grid up (in_round o (2 * length o.collected + 1)))
    by false is = rw is tt

done_asks : (grid : Grid) (up : Servers) (o : Operation) → HeardAsks (collect_done grid up o)
done_asks grid up o = by (skips_store grid o) refl
  where
    by : (b : Bool) → skips_store grid o ≡ b → HeardAsks (collect_done grid up o)
    by true is = rw is (file_asks grid up o.session o.op o.task o.round o.heard o.collected o.floor)
    by false is = rw is (round_asks grid up (in_round o (2 * length o.collected)))

ended_asks : (grid : Grid) (up : Servers) (o : Operation) → HeardAsks (round_done grid up o)
ended_asks grid up o = by (is_collect o.round) refl
  where
    by : (b : Bool) → is_collect o.round ≡ b → HeardAsks (round_done grid up o)
    by true is = rw is (done_asks grid up (with_decided o))
    by false is = rw is (file_asks grid up o.session o.op o.task o.round o.heard o.collected o.floor)

current_asks : (grid : Grid) (up : Servers) (o : Operation) → HeardAsks (hear_current grid up o)
current_asks grid up o = by (ends_round grid o.round o.heard) refl
  where
    by : (b : Bool) → ends_round grid o.round o.heard ≡ b → HeardAsks (hear_current grid up o)
    by true is = rw is (ended_asks grid up o)
    by false is = rw is tt

heard_asks : (grid : Grid) (up : Servers) (o : Operation) (m : OwnMessage) → HeardAsks (hear grid up o m)
heard_asks grid up o m = by (is_current o m) refl
  where
    by : (b : Bool) → is_current o m ≡ b → HeardAsks (hear grid up o m)
    by true is = rw is (current_asks grid up (with_reply o m))
    by false is = rw is tt

-- ---- of a step

new_asks : (first : ℕ) (h : Heard) → HeardAsks h → AllAsk (heard_step first h).new
new_asks first HeardStale asks = tt
new_asks first HeardNoted asks = tt
new_asks first (HeardNext round tag messages) asks = asks
new_asks first (HeardDone outcome) asks = tt

hear_asks : (grid : Grid) (state : State) (m : OwnMessage) (o : Option Operation) → AllAsk (hear_step grid state m o).new
hear_asks grid state m None = tt
hear_asks grid state m (Some o) = new_asks _ (hear grid state.up o m) (heard_asks grid state.up o m)

retry_asks : (grid : Grid) (state : State) (o : Option Operation) → AllAsk (retry_step grid state o).new
retry_asks grid state None = tt
retry_asks grid state (Some o) = by (round_quorum grid state.up o.round) refl
  where
    by : (q : Option Servers) → round_quorum grid state.up o.round ≡ q → AllAsk (retry_step grid state (Some o)).new
    by None is = rw is tt
    by (Some quorum) is = rw is (to_asks grid o _)

begin_asks : (grid : Grid) (state : State) (k : ℕ) (task : Option Task) → AllAsk (begin_step grid state k task).new
begin_asks grid state k None = tt
begin_asks grid state k (Some task) = round_asks grid state.up (first_operation state k task)

session_asks : (grid : Grid) (state : State) (line : Line) → AllAsk (session_step grid state line).new
session_asks grid state (Write k v f bytes) = begin_asks grid state k (task_of state.volumes (Write k v f bytes))
session_asks grid state (Read k v f) = begin_asks grid state k (task_of state.volumes (Read k v f))
session_asks grid state (ListFiles k v) = begin_asks grid state k (task_of state.volumes (ListFiles k v))
session_asks grid state (Retry k) = retry_asks grid state (operation state k)
session_asks grid state (Abandon k) = tt
session_asks grid state line = tt

unless_asks : (o : Option Refusal) (step : Step) → AllAsk step.new → AllAsk (unless o step).new
unless_asks None step asks = asks
unless_asks (Some word) step asks = tt

-- ---- of an act

pub line_asks : (s : Setting) (p : Part) (line : Line) (aim : Servers) → AllAsk (step_of s p (Asks line aim)).new
line_asks s p line aim =
    let state : State = state_of s.volumes aim p in
    unless_asks (first_cause (session_causes s.grid s.row state line)) (session_step s.grid state line) (session_asks s.grid state line)

pub letter_asks : (s : Setting) (p : Part) (m : OwnMessage) (aim : Servers) → to_server m.body ≡ false → AllAsk (step_of s p (Comes m aim)).new
letter_asks s p m aim reply = let state : State = state_of s.volumes aim p in rw reply (hear_asks s.grid state m (operation state m.session))
