-- What is known of a run stays bounded: a reply comes to its session.
use Rattle.std.proofs.Common.{◌≡◌, ◌∙◌, ℕ, ◌+◌, ◌*◌, ◌<◌, ◌≤◌, Bool, true, false, List, [], ◌∷◌, ◌++◌, length, refl, sym, ap, subst, Option, Some, None, arith, All}
use Rattle.std.specs.Prelude.{find, unwrap_or, nat_lt}
use Rattle.std.specs.List.{list_any, last_or}
use Rattle.std.proofs.lemmas.Bool.{true≢false}
use Rattle.std.proofs.lemmas.Bool.Decides.{nat_tests}
use Rattle.std.proofs.lemmas.List.{length_push}
use Rattle.std.proofs.lemmas.List.Elements.{All-nil, All-cons, All-head, All-tail, All-append, All-weaker, All-map, All-filter, All-from_get_or, filter_map-append}
use Rattle.std.proofs.lemmas.List.FromFn.{get_or-range_with_len, length-range_with_len}
use Rattle.gq_grid.specs.Grid.{Grid, Servers, rising, below}
use Rattle.gq_tag.specs.declared.StoredCopy.{StoredCopy}
use Rattle.gq_tag.specs.declared.Tag.{Tag}
use Rattle.gq_tag.specs.declared.Body.{Body}
use Rattle.gq_tag.specs.declared.Body.TheVariants.{Ask, Copy, Store, Stored}
use Rattle.gq_tag.specs.Tag.{OwnMessage, greatest, first_copy, is_unexceeded}
use Rattle.gq_desk.specs.declared.volumes.VolumeRow.{VolumeRow}
use Rattle.gq_phase.specs.Phase.{Task, Writing, Reading, Listing, Reply, Operation, Heard as Saying, HeardStale, HeardNoted, HeardNext, HeardDone, hear, hear_reply, equal_replies, reply_of, heard_copies, with_reply, with_decided, decided_copy, is_current, is_collect, round_file, round_body, round_quorum, round_messages, messages_to, stored_copy, in_round, begin_store, begin_collect, moved, floor_after, collected_after}
use Rattle.gq_phase.proofs.Saying.{even_is, odd_is}
use Rattle.gq_model.specs.Trace.{files_of}
use Rattle.gq_world.specs.Bounds.{CopyFits, BodyFits, room, volume_of, TaskFits, OperationFits}
use Rattle.gq_world.proofs.Hearing.{hear_cases}

-- ---- copies

pub fits_more : (n size : ℕ) (copy : StoredCopy) → CopyFits n size copy → CopyFits (n + 1) size copy
fits_more n size copy h = record { number = let k = h.number in omega arith; long = h.long }

pub first_fits : (n size : ℕ) → CopyFits n size first_copy
first_fits n size = record { number = omega arith; long = omega arith }

found_fits : (p : StoredCopy → Bool) (n size : ℕ) (xs : List StoredCopy) → All (CopyFits n size) xs → CopyFits n size (unwrap_or (find p xs) first_copy)
found_fits p n size [] all = first_fits n size
found_fits p n size (x ∷ xs) all = by (p x) refl (found_fits p n size xs (All-tail (CopyFits n size) x xs all))
  where
    by : (b : Bool) → p x ≡ b → CopyFits n size (unwrap_or (find p xs) first_copy) → CopyFits n size (unwrap_or (find p (x ∷ xs)) first_copy)
    by true is rest = rw is (All-head (CopyFits n size) x xs all)
    by false is rest = rw is rest

pub greatest_fits : (n size : ℕ) (xs : List StoredCopy) → All (CopyFits n size) xs → CopyFits n size (greatest xs)
greatest_fits n size xs all = found_fits (is_unexceeded xs) n size xs all

last_push : (o : Option StoredCopy) (copies : List StoredCopy) (c : StoredCopy) → last_or o (copies ++ c ∷ []) ≡ Some c
last_push o [] c = refl
last_push o (x ∷ xs) c = last_push (Some x) xs c

pub stored_push : (copies : List StoredCopy) (c : StoredCopy) → stored_copy (copies ++ c ∷ []) ≡ c
stored_push copies c = ap (λ last. unwrap_or last first_copy) (last_push None copies c)

-- ---- what was heard

one_fits : (n size server : ℕ) (body : Body) → BodyFits n size body → All (CopyFits n size) (heard_copies (record { server = server; body = body } ∷ []))
one_fits n size server Ask h = All-nil (CopyFits n size)
one_fits n size server (Copy copy) h = All-cons (CopyFits n size) copy [] h (All-nil (CopyFits n size))
one_fits n size server (Store copy) h = All-nil (CopyFits n size)
one_fits n size server Stored h = All-nil (CopyFits n size)

pub heard_fits : (n size : ℕ) (heard : List Reply) (message : OwnMessage) → All (CopyFits n size) (heard_copies heard) → BodyFits n size message.body → All (CopyFits n size) (heard_copies (hear_reply heard (reply_of message)))
heard_fits n size heard message all fits = by (list_any (equal_replies (reply_of message)) heard) refl
  where
    more : All (CopyFits n size) (heard_copies (heard ++ reply_of message ∷ []))
    more = rw filter_map-append (All-append (CopyFits n size) (heard_copies heard) (heard_copies (reply_of message ∷ [])) all (one_fits n size message.server message.body fits))

    by : (b : Bool) → list_any (equal_replies (reply_of message)) heard ≡ b → All (CopyFits n size) (heard_copies (hear_reply heard (reply_of message)))
    by true is = rw is all
    by false is = rw is more

-- ---- the file of a round

volume_is : (task : Task) (round : ℕ) → (round_file task round).volume ≡ volume_of task
volume_is (Writing file bytes) round = refl
volume_is (Reading file) round = refl
volume_is (Listing volume files) round = refl

-- a file's store round is of the file of its collect round
store_file : (task : Task) (round k : ℕ) → round ≡ 2 * k + 1 → (round_file task (2 * (k + 1))).place ≡ (round_file task round).place
store_file (Writing file bytes) round k is = refl
store_file (Reading file) round k is = refl
store_file (Listing volume files) round k is = omega arith

-- ---- what is decided

decided_fits : (n : ℕ) (volumes : List VolumeRow) (o : Operation) (task : Task) → o.task ≡ task → TaskFits volumes task → o.floor ≤ n → All (CopyFits n (room volumes (volume_of task))) (heard_copies o.heard) →
    CopyFits (n + 1) (room volumes (volume_of task)) (decided_copy o)
decided_fits n volumes o (Reading file) is fits low all = rw is (fits_more n (room volumes file.volume) (greatest (heard_copies o.heard)) (greatest_fits n (room volumes file.volume) (heard_copies o.heard) all))
decided_fits n volumes o (Listing volume files) is fits low all = rw is (fits_more n (room volumes volume) (greatest (heard_copies o.heard)) (greatest_fits n (room volumes volume) (heard_copies o.heard) all))
decided_fits n volumes o (Writing file bytes) is fits low all =
    let g = greatest_fits n (room volumes file.volume) (heard_copies o.heard) all in
    let k : (greatest (heard_copies o.heard)).tag.number ≤ n = g.number in
    rw is (record { number = omega arith; long = fits.1 })

-- ---- the messages of a round

-- the message is of the operation, of this round
pub record IsOfRound (grid : Grid) (n : ℕ) (volumes : List VolumeRow) (o : Operation) (round : ℕ) (message : OwnMessage) : Type 0 where
  pub server : message.server < grid.rows * grid.cols
  pub session : message.session ≡ o.session
  pub op : message.op ≡ o.op
  pub round_is : message.round ≡ round
  pub volume : message.file.volume ≡ volume_of o.task
  pub file : message.file.place < files_of volumes (volume_of o.task)
  pub body : BodyFits n (room volumes (volume_of o.task)) message.body

pub below_all : (n : ℕ) → All (λ s. s < n) (below n)
below_all n = All-from_get_or (λ s. s < n) (below n) 0 (λ i within. let size = length-range_with_len 0 n in let k : i < n = omega arith in let at = get_or-range_with_len 0 n i 0 k in omega arith)

body_fits : (n size round : ℕ) (collected : List StoredCopy) → CopyFits n size (stored_copy collected) → BodyFits n size (round_body round collected)
body_fits n size round collected stored = by (is_collect round) refl
  where
    by : (b : Bool) → is_collect round ≡ b → BodyFits n size (round_body round collected)
    by true is = rw is tt
    by false is = rw is stored

pub sent_to_fits : (grid : Grid) (n : ℕ) (volumes : List VolumeRow) (o : Operation) (set : Servers) → (round_file o.task o.round).place < files_of volumes (volume_of o.task) → CopyFits n (room volumes (volume_of o.task)) (stored_copy o.collected) →
    All (IsOfRound grid n volumes o o.round) (messages_to grid o set)
sent_to_fits grid n volumes o set file stored =
    let f : ℕ → OwnMessage = λ server. record { session = o.session; op = o.op; round = o.round; server = server; file = round_file o.task o.round; body = round_body o.round o.collected } in
    let N : ℕ = grid.rows * grid.cols in
    All-map (IsOfRound grid n volumes o o.round) f (rising grid set)
    (All-weaker (λ s. s < N) (λ s. IsOfRound grid n volumes o o.round (f s)) (λ s within. record {
      server = within;
      session = refl;
      op = refl;
      round_is = refl;
      volume = volume_is o.task o.round;
      file = file;
      body = body_fits n (room volumes (volume_of o.task)) o.round o.collected stored;
    }) (rising grid set) (All-filter set (λ s. s < N) (below N) (below_all N)))

pub round_fits : (grid : Grid) (up : Servers) (n : ℕ) (volumes : List VolumeRow) (o : Operation) → (round_file o.task o.round).place < files_of volumes (volume_of o.task) → CopyFits n (room volumes (volume_of o.task)) (stored_copy o.collected) →
    All (IsOfRound grid n volumes o o.round) (round_messages grid up o)
round_fits grid up n volumes o file stored = by (round_quorum grid up o.round) refl
  where
    by : (q : Option Servers) → round_quorum grid up o.round ≡ q → All (IsOfRound grid n volumes o o.round) (round_messages grid up o)
    by None is = rw is (All-nil (IsOfRound grid n volumes o o.round))
    by (Some set) is = rw is (sent_to_fits grid n volumes o set file stored)

-- ---- what an operation says

abbrev pub HeardFits : Grid → ℕ → List VolumeRow → Operation → OwnMessage → Saying → Type 0
HeardFits grid n volumes o message HeardStale = Unit {0}
HeardFits grid n volumes o message HeardNoted = OperationFits (n + 1) volumes (with_reply o message)
HeardFits grid n volumes o message (HeardNext round tag messages) = OperationFits (n + 1) volumes (moved o message round tag) × All (IsOfRound grid (n + 1) volumes o round) messages × (o.round < round)
HeardFits grid n volumes o message (HeardDone outcome) = Unit {0}

floor_fits : (task : Task) (tag : Tag) (n floor : ℕ) → floor ≤ n → tag.number ≤ n + 1 → floor_after task (Some tag) floor ≤ n + 1
floor_fits (Writing file bytes) tag n floor low number = number
floor_fits (Reading file) tag n floor low number = omega arith
floor_fits (Listing volume files) tag n floor low number = omega arith

none_floor : (task : Task) (floor : ℕ) → floor_after task None floor ≡ floor
none_floor (Writing file bytes) floor = refl
none_floor (Reading file) floor = refl
none_floor (Listing volume files) floor = refl

-- the copy that was decided is the last one collected
decided_stored : (n : ℕ) (volumes : List VolumeRow) (o : Operation) (message : OwnMessage) → OperationFits n volumes o → BodyFits n (room volumes (volume_of o.task)) message.body →
    CopyFits (n + 1) (room volumes (volume_of o.task)) (stored_copy (o.collected ++ decided_copy (with_reply o message) ∷ []))
decided_stored n volumes o message fits body =
    let p : Operation = with_reply o message in
    let size : ℕ = room volumes (volume_of o.task) in
    let all : All (CopyFits n size) (heard_copies p.heard) = heard_fits n size o.heard message fits.heard body in
    let good : CopyFits (n + 1) size (decided_copy p) = decided_fits n volumes p o.task refl fits.task fits.floor all in
    subst (CopyFits (n + 1) size) (sym (stored_push o.collected (decided_copy p))) good

-- the store round begins
stores_fits : (grid : Grid) (up : Servers) (n : ℕ) (volumes : List VolumeRow) (o : Operation) (message : OwnMessage) → OperationFits n volumes o → BodyFits n (room volumes (volume_of o.task)) message.body → is_collect o.round ≡ true →
    HeardFits grid n volumes o message (begin_store grid up (with_decided (with_reply o message)))
stores_fits grid up n volumes o message fits body odd =
    let p : Operation = with_reply o message in
    let size : ℕ = room volumes (volume_of o.task) in
    let decided : StoredCopy = decided_copy p in
    let copies : List StoredCopy = o.collected ++ decided ∷ [] in
    let stored : CopyFits (n + 1) size (stored_copy copies) = decided_stored n volumes o message fits body in
    let count : length copies ≡ length o.collected + 1 = length_push o.collected decided in
    let round : 2 * length copies ≡ 2 * (length o.collected + 1) = omega arith in
    let file : (round_file o.task (2 * length copies)).place < files_of volumes (volume_of o.task) =
    subst (λ r. (round_file o.task r).place < files_of volumes (volume_of o.task)) (sym round)
    (subst (λ q. q < files_of volumes (volume_of o.task)) (sym (store_file o.task o.round (length o.collected) (fits.collects odd))) fits.file) in
    let after : collected_after o message ≡ copies = rw odd refl in
    let op : o.op ≤ n + 1 = let h = fits.op in omega arith in
    let floor : floor_after o.task (Some (stored_copy copies).tag) o.floor ≤ n + 1 = floor_fits o.task (stored_copy copies).tag n o.floor fits.floor stored.number in (
      record {
        op = op;
        floor = floor;
        task = fits.task;
        file = file;
        collects = λ is. absurd (true≢false (sym is ∙ even_is (length copies)));
        stores = λ even. ap (λ cs. 2 * length cs) (sym after);
        heard = All-nil (CopyFits (n + 1) size);
        stored = subst (λ cs. CopyFits (n + 1) size (stored_copy cs)) (sym after) stored;
      },
      All-weaker (IsOfRound grid (n + 1) volumes (in_round (with_decided p) (2 * length copies)) (2 * length copies)) (IsOfRound grid (n + 1) volumes o (2 * length copies))
          (λ l h. record { server = h.server; session = h.session; op = h.op; round_is = h.round_is; volume = h.volume; file = h.file; body = h.body })
          (round_messages grid up (in_round (with_decided p) (2 * length copies)))
          (round_fits grid up (n + 1) volumes (in_round (with_decided p) (2 * length copies)) file stored),
      (let before = fits.collects odd in omega arith),
    )

-- the collect round of a listing's next file begins, where these copies were collected
next_fits : (grid : Grid) (up : Servers) (n : ℕ) (volumes : List VolumeRow) (o : Operation) (message : OwnMessage) (heard : List Reply) (copies : List StoredCopy) (volume files : ℕ) → OperationFits n volumes o → collected_after o message ≡ copies →
    CopyFits (n + 1) (room volumes (volume_of o.task)) (stored_copy copies) → o.task ≡ Listing volume files → nat_lt (length copies) files ≡ true → o.round < 2 * length copies + 1 →
    HeardFits grid n volumes o message (begin_collect grid up (record { session = o.session; op = o.op; task = o.task; round = o.round; heard = heard; collected = copies; floor = o.floor }))
next_fits grid up n volumes o message heard copies volume files fits after stored is more later =
    let p : Operation = record { session = o.session; op = o.op; task = o.task; round = o.round; heard = heard; collected = copies; floor = o.floor } in
    let k : ℕ = length copies in
    let size : ℕ = room volumes (volume_of o.task) in
    let there : files ≤ files_of volumes volume = rw is at fits.task in
    let low : k < files = grind (arith, nat_tests) in
    let F : Task → Type 0 = λ task. (round_file task (2 * k + 1)).place < files_of volumes (volume_of task) in
    let file : F o.task = subst F (sym is) (omega arith) in
    let op : o.op ≤ n + 1 = let h = fits.op in omega arith in
    let floor : floor_after o.task None o.floor ≤ n + 1 = let e = none_floor o.task o.floor in let h = fits.floor in omega arith in (
      record {
        op = op;
        floor = floor;
        task = fits.task;
        file = file;
        collects = λ odd. ap (λ cs. 2 * length cs + 1) (sym after);
        stores = λ is. absurd (true≢false (sym (odd_is k) ∙ is));
        heard = All-nil (CopyFits (n + 1) size);
        stored = subst (λ cs. CopyFits (n + 1) size (stored_copy cs)) (sym after) stored;
      },
      All-weaker (IsOfRound grid (n + 1) volumes (in_round p (2 * k + 1)) (2 * k + 1)) (IsOfRound grid (n + 1) volumes o (2 * k + 1))
          (λ l h. record { server = h.server; session = h.session; op = h.op; round_is = h.round_is; volume = h.volume; file = h.file; body = h.body })
          (round_messages grid up (in_round p (2 * k + 1)))
          (round_fits grid up (n + 1) volumes (in_round p (2 * k + 1)) file stored),
      later,
    )

-- after a store round
collects_fits : (grid : Grid) (up : Servers) (n : ℕ) (volumes : List VolumeRow) (o : Operation) (message : OwnMessage) (volume files : ℕ) → OperationFits n volumes o → is_collect o.round ≡ false → o.task ≡ Listing volume files → nat_lt (length o.collected) files ≡ true →
    HeardFits grid n volumes o message (begin_collect grid up (with_reply o message))
collects_fits grid up n volumes o message volume files fits even is more =
    let size : ℕ = room volumes (volume_of o.task) in
    let after : collected_after o message ≡ o.collected = rw even refl in
    next_fits grid up n volumes o message (with_reply o message).heard o.collected volume files fits after (fits_more n size (stored_copy o.collected) fits.stored) is more (let before = fits.stores even in omega arith)

-- without a store round of the copy that was decided
skips_fits : (grid : Grid) (up : Servers) (n : ℕ) (volumes : List VolumeRow) (o : Operation) (message : OwnMessage) (volume files : ℕ) → OperationFits n volumes o → BodyFits n (room volumes (volume_of o.task)) message.body → is_collect o.round ≡ true →
    o.task ≡ Listing volume files → nat_lt (length (with_decided (with_reply o message)).collected) files ≡ true → HeardFits grid n volumes o message (begin_collect grid up (with_decided (with_reply o message)))
skips_fits grid up n volumes o message volume files fits body odd is more =
    let after : collected_after o message ≡ o.collected ++ decided_copy (with_reply o message) ∷ [] = rw odd refl in
    let count = length_push o.collected (decided_copy (with_reply o message)) in
    let before = fits.collects odd in
    next_fits grid up n volumes o message (with_reply o message).heard (o.collected ++ decided_copy (with_reply o message) ∷ []) volume files fits after (decided_stored n volumes o message fits body) is more (omega arith)

pub hear_fits : (grid : Grid) (up : Servers) (n : ℕ) (volumes : List VolumeRow) (o : Operation) (message : OwnMessage) → OperationFits n volumes o → (is_current o message ≡ true → BodyFits n (room volumes (volume_of o.task)) message.body) →
    HeardFits grid n volumes o message (hear grid up o message)
hear_fits grid up n volumes o message fits body =
    let size : ℕ = room volumes (volume_of o.task) in
    hear_cases (HeardFits grid n volumes o message) grid up o message tt
    (λ cur. record {
      op = let h = fits.op in omega arith;
      floor = let h = fits.floor in omega arith;
      task = fits.task;
      file = fits.file;
      collects = fits.collects;
      stores = fits.stores;
      heard = All-weaker (CopyFits n size) (CopyFits (n + 1) size) (fits_more n size) (heard_copies (hear_reply o.heard (reply_of message))) (heard_fits n size o.heard message fits.heard (body cur));
      stored = fits_more n size (stored_copy o.collected) fits.stored;
    })
    (λ cur odd. stores_fits grid up n volumes o message fits (body cur) odd)
    (λ volume files cur odd is more. skips_fits grid up n volumes o message volume files fits (body cur) odd is more)
    (λ volume files cur even is more. collects_fits grid up n volumes o message volume files fits even is more)
    (λ outcome. tt)
