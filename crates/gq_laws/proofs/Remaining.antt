-- The end of a round leads on: the operation is done, or a next round of it begins, and fewer rounds are left. The one file
-- of this law that looks at what follows a round.
use Rattle.std.proofs.Common.{◌≡◌, ℕ, ◌+◌, ◌-◌, ◌*◌, ◌<◌, max, Bool, true, false, ◌++◌, List, [], ◌∷◌, length, refl, ap, ◌∙◌, nat_lt, arith}
use Rattle.std.specs.Prelude.{if◌then◌else◌}
use Rattle.std.proofs.lemmas.Bool.{ltb-true}
use Rattle.std.proofs.lemmas.List.{length_push}
use Rattle.gq_grid.specs.Grid.{Grid, Servers}
use Rattle.gq_tag.specs.declared.StoredCopy.{StoredCopy}
use Rattle.gq_phase.specs.declared.Outcome.{Outcome}
use Rattle.gq_phase.specs.Phase.{Task, Writing, Reading, Listing, Reply, Operation, Heard, HeardStale, HeardNoted, HeardNext, HeardDone, is_collect, with_decided, decided_copy, file_done, round_done, begin_store, collect_done, skips_store, in_round, round_messages}
use Rattle.gq_phase.proofs.Saying.{odd_is, even_is}
use Rattle.gq_laws.specs.Progress.{task_files, files_left, rounds_left, IsOutcomeOf}

-- the copies collected once the operation's round has ended
abbrev pub collected_then : Operation → List StoredCopy
collected_then o = if is_collect o.round then o.collected ++ decided_copy o ∷ [] else o.collected

-- the operation in the round that follows
abbrev pub in_next : Operation → ℕ → Operation
in_next o round = record { session = o.session; op = o.op; task = o.task; round = round; heard = []; collected = collected_then o; floor = o.floor }

-- what is said at the end of a round: the operation is done, or fewer rounds are left, and the messages of the next are sent
abbrev pub LeadsOn : Grid → Servers → Operation → Heard → Type 0
LeadsOn grid up o HeardStale = ⊥
LeadsOn grid up o HeardNoted = ⊥
LeadsOn grid up o (HeardNext round tag messages) = (rounds_left (in_next o round) < rounds_left o) × (messages ≡ round_messages grid up (in_next o round))
LeadsOn grid up o (HeardDone outcome) = IsOutcomeOf o outcome

-- what is said after the last round of a file: the operation is done, or the next file's collect round begins
abbrev Continues : Grid → Servers → Operation → Heard → Type 0
Continues grid up o HeardStale = ⊥
Continues grid up o HeardNoted = ⊥
Continues grid up o (HeardNext round tag messages) = (round ≡ 2 * length o.collected + 1) × (length o.collected < task_files o.task) × (messages ≡ round_messages grid up (in_round o round))
Continues grid up o (HeardDone outcome) = IsOutcomeOf o outcome

file_continues : (grid : Grid) (up : Servers) (k n : ℕ) (task : Task) (round : ℕ) (heard : List Reply) (collected : List StoredCopy) (floor : ℕ) →
    let o : Operation = record { session = k; op = n; task = task; round = round; heard = heard; collected = collected; floor = floor } in
    Continues grid up o (file_done grid up o)
file_continues grid up k n (Writing file bytes) round heard collected floor = (refl, refl)
file_continues grid up k n (Reading file) round heard collected floor = (refl, refl)
file_continues grid up k n (Listing volume files) round heard collected floor = go (nat_lt (length collected) files) refl
  where
    o : Operation
    o = record { session = k; op = n; task = Listing volume files; round = round; heard = heard; collected = collected; floor = floor }

    go : (b : Bool) → nat_lt (length collected) files ≡ b → Continues grid up o (file_done grid up o)
    go true more = rw more (refl, ltb-true (length collected) files more, refl)
    go false more = rw more (refl, refl)

-- ---- the rounds that are left

in_collect : (o : Operation) → is_collect o.round ≡ true → rounds_left o ≡ 2 * max 1 (files_left o)
in_collect o odd = rw odd refl

in_store : (o : Operation) → is_collect o.round ≡ false → rounds_left o ≡ 2 * files_left o + 1
in_store o even = rw even refl

-- a store round follows a collect round
to_store : (o : Operation) → is_collect o.round ≡ true → rounds_left (in_next o (2 * length (o.collected ++ decided_copy o ∷ []))) < rounds_left o
to_store o odd =
    let size : length (o.collected ++ decided_copy o ∷ []) ≡ length o.collected + 1 = length_push o.collected (decided_copy o) in
    let count : length (collected_then o) ≡ length o.collected + 1 = rw odd size in
    let now = in_collect o odd in
    let later = in_store (in_next o (2 * length (o.collected ++ decided_copy o ∷ []))) (even_is (length (o.collected ++ decided_copy o ∷ []))) in
    omega arith

-- the collect round of the next file follows a store round, or a collect round
to_collect : (o : Operation) (round : ℕ) → round ≡ 2 * length (collected_then o) + 1 → length (collected_then o) < task_files o.task → rounds_left (in_next o round) < rounds_left o
to_collect o round is more = go (is_collect o.round) refl
  where
    later : rounds_left (in_next o round) ≡ 2 * max 1 (task_files o.task - length (collected_then o))
    later = in_collect (in_next o round) (ap is_collect is ∙ odd_is (length (collected_then o)))

    go : (b : Bool) → is_collect o.round ≡ b → rounds_left (in_next o round) < rounds_left o
    go true odd =
        let count : length (collected_then o) ≡ length o.collected + 1 = rw odd (length_push o.collected (decided_copy o)) in
        let now = in_collect o odd in
        let next = later in
        omega arith
    go false even =
        let count : length (collected_then o) ≡ length o.collected = rw even refl in
        let now = in_store o even in
        let next = later in
        omega arith

-- the last round of a file is over; also is the operation with what it then has collected
file_leads : (grid : Grid) (up : Servers) (o also : Operation) (h : Heard) → ((round : ℕ) → in_round also round ≡ in_next o round) → ((outcome : Outcome) → IsOutcomeOf also outcome → IsOutcomeOf o outcome) → Continues grid up also h → LeadsOn grid up o h
file_leads grid up o also HeardStale same its f = absurd f
file_leads grid up o also HeardNoted same its f = absurd f
file_leads grid up o also (HeardNext round tag messages) same its f =
    let count : length also.collected ≡ length (collected_then o) = ap (λ z. length z.collected) (same round) in
    let files : task_files also.task ≡ task_files o.task = ap (λ z. task_files z.task) (same round) in
    let is = f.0 in
    let more = f.1 in
    (to_collect o round (omega arith) (omega arith), f.2 ∙ ap (round_messages grid up) (same round))
file_leads grid up o also (HeardDone outcome) same its f = its outcome f

file_says : (grid : Grid) (up : Servers) (o : Operation) → Continues grid up o (file_done grid up o)
file_says grid up o = file_continues grid up o.session o.op o.task o.round o.heard o.collected o.floor

store_leads : (grid : Grid) (up : Servers) (o : Operation) → is_collect o.round ≡ true → LeadsOn grid up o (begin_store grid up (with_decided o))
store_leads grid up o odd = (to_store o odd, ap (round_messages grid up) same)
  where
    same : in_round (with_decided o) (2 * length (o.collected ++ decided_copy o ∷ [])) ≡ in_next o (2 * length (o.collected ++ decided_copy o ∷ []))
    same = rw odd refl

-- a collect round is followed by its store round, or the file is done without one
collect_leads : (grid : Grid) (up : Servers) (o : Operation) → is_collect o.round ≡ true → LeadsOn grid up o (collect_done grid up (with_decided o))
collect_leads grid up o odd = go (skips_store grid (with_decided o)) refl
  where
    same : (round : ℕ) → in_round (with_decided o) round ≡ in_next o round
    same round = rw odd refl

    go : (b : Bool) → skips_store grid (with_decided o) ≡ b → LeadsOn grid up o (collect_done grid up (with_decided o))
    go true skips = rw skips (file_leads grid up o (with_decided o) (file_done grid up (with_decided o)) same (λ outcome its. its) (file_says grid up (with_decided o)))
    go false stores = rw stores (store_leads grid up o odd)

pub round_leads : (grid : Grid) (up : Servers) (o : Operation) → LeadsOn grid up o (round_done grid up o)
round_leads grid up o = go (is_collect o.round) refl
  where
    go : (b : Bool) → is_collect o.round ≡ b → LeadsOn grid up o (round_done grid up o)
    go true odd = rw odd (collect_leads grid up o odd)
    go false even = rw even (file_leads grid up o o (file_done grid up o) (λ round. rw even refl) (λ outcome its. its) (file_says grid up o))
