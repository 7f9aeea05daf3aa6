-- What an operation says to a message, and which value stands for it afterwards.
use Rattle.std.proofs.Common.{◌≡◌, ℕ, ◌+◌, ◌*◌, ◌%◌, Bool, true, false, ◌&&◌, List, [], ◌∷◌, ◌++◌, length, map, refl, sym, ap, ◌∙◌, Option, Some, None, inl, inr, arith, eqb}
use Rattle.std.specs.Prelude.{◌==◌, not, is_some, if◌then◌else◌, unwrap_or, IfOk, OnOk, Result, Ok, Err, nat_lt, ◌-◌, ◌/◌}
use Rattle.std.proofs.lemmas.Bool.{and_from, and_parts, cases_Bool, true≢false, not-true, eqb-true, eq-eqb, ne_eqb}
use Rattle.std.proofs.lemmas.List.{length_push, length-map, map-append}
use Rattle.gq_grid.specs.Grid.{Grid, Servers, with_server, rising}
use Rattle.gq_grid.specs.Sets.{servers}
use Rattle.gq_grid.specs.declared.ServerSet.{ServerSet}
use Rattle.gq_tag.specs.declared.Tag.{Tag}
use Rattle.gq_tag.specs.declared.StoredCopy.{StoredCopy}
use Rattle.gq_tag.specs.declared.FileId.{FileId}
use Rattle.gq_tag.specs.declared.Body.{Body}
use Rattle.gq_tag.specs.declared.Body.TheVariants.{Ask, Copy, Store, Stored}
use Rattle.gq_tag.specs.declared.Message.{Message}
use Rattle.gq_tag.specs.Tag.{is_less, newer_of, latest, greatest, first_copy, OwnMessage, own_message, message_of, file_of, file_place}
use Rattle.gq_round.specs.declared.RoundMessage.{RoundMessage}
use Rattle.gq_round.specs.declared.Who.{Who}
use Rattle.gq_round.specs.Round.{addressed, apart, sent_to}
use Rattle.gq_phase.specs.Quorums.{collect_quorum, store_quorum, ends_store}
use Rattle.std.specs.List.{last_or}
use Rattle.gq_phase.specs.declared.Row.{Row}
use Rattle.gq_phase.specs.declared.Heard.{Heard}
use Rattle.gq_phase.specs.declared.Heard.TheVariants.{Noted, Next, Done}
use Rattle.gq_phase.specs.declared.operation.Operation.{Operation as Code}
use Rattle.gq_phase.specs.declared.operation.Task.{Task as CodeTask}
use Rattle.gq_phase.specs.declared.operation.Task.TheVariants.{Write, Read, List as ListFiles}
use Rattle.gq_phase.specs.Course.{Course, round_of}
use Rattle.gq_phase.specs.Best.{best_with, givers_with, tag_in}
use Rattle.gq_phase.specs.Phase.{Task, Reply, Operation, HeardNoted, HeardNext, HeardDone, heard_servers, heard_copies, givers, reply_of, stored_copy, skips_store, round_file, round_body, round_messages, messages_to, round_quorum, is_collect, is_current, ends_round, hear, with_reply, with_decided, decided_copy, begin_store, begin_collect, file_done, listed_row, moved, begun, floor_after}
use Rattle.gq_phase.specs.Standing.{SameFor, task_for, StandsFor, HearsAs, Begins, BeginsStore, decided_as, floor_with, outcome_as, IsFresh, ResendsAs, rows_of, rows_with, is_list, reads, skips_as, IsTaken, DifferInContent, HearsTag, StoresNow, stored_as, takes_by, next_file, file_after, BeginsCollect, SkipsOn, first_ask, is_current_as, quorum_as, ends_as, message_as, store_message, next_ask, ask_after}
use Rattle.gq_phase.proofs.Hearing.{heard_servers-hear, latest-hear}
use Rattle.gq_phase.proofs.Givers.{givers-hear}
use Rattle.gq_phase.proofs.Retrying.{nothing_heard, one_unheard}

-- ---- rounds

pub odd_is : (n : ℕ) → is_collect (2 * n + 1) ≡ true
odd_is n = eq-eqb ((2 * n + 1) % 2) 1 (omega arith)

pub even_is : (n : ℕ) → is_collect (2 * n) ≡ false
even_is n = ne_eqb ((2 * n) % 2) 1 (λ e. omega (arith, e))

-- the round of the value collects where that of the operation does
pub collects_is : (course : Course) (r : ℕ) → round_of course ≡ r → course.collecting ≡ is_collect r
collects_is course r is = by course.collecting refl
  where
    by : (b : Bool) → course.collecting ≡ b → course.collecting ≡ is_collect r
    by true odd = let f : 2 * course.collected + 1 ≡ r = rw odd at is in odd ∙ sym (odd_is course.collected) ∙ ap is_collect f
    by false even = let f : 2 * course.collected ≡ r = rw even at is in even ∙ sym (even_is course.collected) ∙ ap is_collect f

round_odd : (course : Course) (r : ℕ) → round_of course ≡ r → course.collecting ≡ true → is_collect r ≡ true
round_odd course r is odd = sym (collects_is course r is) ∙ odd

round_even : (course : Course) (r : ℕ) → round_of course ≡ r → course.collecting ≡ false → is_collect r ≡ false
round_even course r is even = sym (collects_is course r is) ∙ even

-- the round of the value ends where that of the operation does
ends_is : (code : Code) (grid : Grid) (round : ℕ) (heard : List Reply) (set : Servers) → code.grid ≡ grid → round_of code.course ≡ round → set ≡ heard_servers heard →
    ends_round grid round heard ≡ ends_as code set
ends_is code grid round heard set g r h = go code.course.collecting refl
  where
    go : (b : Bool) → code.course.collecting ≡ b → ends_round grid round heard ≡ ends_as code set
    go true e = let odd : is_collect round ≡ true = round_odd code.course round r e in rw (e, odd, g, h) refl
    go false e = let even : is_collect round ≡ false = round_even code.course round r e in rw (e, even, g, h) refl

-- ---- lists of copies

last_or-push : (o : Option StoredCopy) (copies : List StoredCopy) (c : StoredCopy) → last_or o (copies ++ c ∷ []) ≡ Some c
last_or-push o [] c = refl
last_or-push o (x ∷ xs) c = last_or-push (Some x) xs c

stored-push : (copies : List StoredCopy) (c : StoredCopy) → stored_copy (copies ++ c ∷ []) ≡ c
stored-push copies c = ap (λ last. unwrap_or last first_copy) (last_or-push None copies c)

-- ---- messages

map-both : {A B : Type 0} (f : A → B) (g : ℕ → A) (h : ℕ → B) → ((x : ℕ) → f (g x) ≡ h x) → (xs : List ℕ) → map f (map g xs) ≡ map h xs
map-both f g h e [] = refl
map-both f g h e (x ∷ xs) = λ i. e x i ∷ map-both f g h e xs i

pub messages_to-sent : (grid : Grid) (tenant : ℕ) (o : Operation) (m : RoundMessage) (set : Servers) →
    m.who.tenant ≡ tenant → m.who.session ≡ o.session → m.who.op ≡ o.op → m.round ≡ o.round → m.file ≡ file_of tenant (round_file o.task o.round) → round_body o.round o.collected ≡ m.body →
    map (message_of tenant) (messages_to grid o set) ≡ map (addressed m) (rising grid set)
messages_to-sent grid tenant o m set t s n r f b =
    map-both (message_of tenant) (λ server. record { session = o.session; op = o.op; round = o.round; server = server; file = round_file o.task o.round; body = round_body o.round o.collected })
    (addressed m)
    (λ x. λ i. record { tenant = sym t i; session = sym s i; op = sym n i; round = sym r i; server = x; file = sym f i; body = b i }) (rising grid set)

pub round_messages-sent : (grid : Grid) (up : Servers) (tenant : ℕ) (o : Operation) (m : RoundMessage) (quorum : Option Servers) →
    round_quorum grid up o.round ≡ quorum →
    m.who.tenant ≡ tenant → m.who.session ≡ o.session → m.who.op ≡ o.op → m.round ≡ o.round → m.file ≡ file_of tenant (round_file o.task o.round) → round_body o.round o.collected ≡ m.body →
    map (message_of tenant) (round_messages grid up o) ≡ sent_to grid quorum m
round_messages-sent grid up tenant o m None q t s n r f b = rw q refl
round_messages-sent grid up tenant o m (Some set) q t s n r f b = rw q (messages_to-sent grid tenant o m set t s n r f b)

-- ---- what is said

current : (o : Operation) (m : OwnMessage) → m.op ≡ o.op → m.round ≡ o.round → is_current o m ≡ true
current o m e f = and_from (eqb m.op o.op) (eqb m.round o.round) (eq-eqb m.op o.op e) (eq-eqb m.round o.round f)

pub hear_noted : (grid : Grid) (up : Servers) (o : Operation) (m : OwnMessage) → is_current o m ≡ true → ends_round grid o.round (with_reply o m).heard ≡ false → hear grid up o m ≡ HeardNoted
hear_noted grid up o m cur goes_on = rw (cur, goes_on) refl

pub hear_collected : (grid : Grid) (up : Servers) (o : Operation) (m : OwnMessage) → is_current o m ≡ true → ends_round grid o.round (with_reply o m).heard ≡ true → is_collect o.round ≡ true →
    skips_store grid (with_decided (with_reply o m)) ≡ false → hear grid up o m ≡ begin_store grid up (with_decided (with_reply o m))
hear_collected grid up o m cur ended odd stores = rw (cur, ended, odd, stores) refl

pub hear_skipped : (grid : Grid) (up : Servers) (o : Operation) (m : OwnMessage) → is_current o m ≡ true → ends_round grid o.round (with_reply o m).heard ≡ true → is_collect o.round ≡ true →
    skips_store grid (with_decided (with_reply o m)) ≡ true → hear grid up o m ≡ file_done grid up (with_decided (with_reply o m))
hear_skipped grid up o m cur ended odd skips = rw (cur, ended, odd, skips) refl

pub hear_stored : (grid : Grid) (up : Servers) (o : Operation) (m : OwnMessage) → is_current o m ≡ true → ends_round grid o.round (with_reply o m).heard ≡ true → is_collect o.round ≡ false →
    hear grid up o m ≡ file_done grid up (with_reply o m)
hear_stored grid up o m cur ended even = rw (cur, ended, even) refl

-- ---- the greatest copy, to what the session was asked to do

pub same_of : (t : CodeTask) (a b : Option StoredCopy) → a ≡ b → SameFor t a b
same_of (Write bytes) a b e = ap tag_in e
same_of Read a b e = e
same_of ListFiles a b e = e

some_tags : (x y : StoredCopy) → ◌≡◌ {A = Option Tag} (Some x.tag) (Some y.tag) → x.tag ≡ y.tag
some_tags x y e = cc

-- with one more reply it stays the same
tags_with : (a b : Option StoredCopy) (body : Body) → tag_in a ≡ tag_in b → tag_in (best_with a body) ≡ tag_in (best_with b body)
tags_with None None body e = refl
tags_with None (Some y) body e = absurd (cc)
tags_with (Some x) None body e = absurd (cc)
tags_with (Some x) (Some y) (Copy c) e =
    let tags : x.tag ≡ y.tag = some_tags x y e in
    elim (cases_Bool (is_less y.tag c.tag)) [
      | inl h ↦ rw (tags, h) refl
      | inr h ↦ rw (tags, h) refl
    ]
tags_with (Some x) (Some y) Ask e = e
tags_with (Some x) (Some y) (Store c) e = e
tags_with (Some x) (Some y) Stored e = e

same_now : (t : CodeTask) (a b c d : Option StoredCopy) (body : Body) → SameFor t a (best_with b body) → SameFor t b c → best_with c body ≡ d → SameFor t a d
same_now (Write bytes) a b c d body f g h = f ∙ tags_with b c body g ∙ ap tag_in h
same_now Read a b c d body f g h = f ∙ ap (λ o. best_with o body) g ∙ h
same_now ListFiles a b c d body f g h = f ∙ ap (λ o. best_with o body) g ∙ h

tags_give : (a b : Option StoredCopy) (set : Servers) (server : ℕ) (body : Body) → tag_in a ≡ tag_in b → givers_with a set server body ≡ givers_with b set server body
tags_give None None set server body e = refl
tags_give None (Some y) set server body e = absurd (cc)
tags_give (Some x) None set server body e = absurd (cc)
tags_give (Some x) (Some y) set server (Copy c) e = rw (some_tags x y e) refl
tags_give (Some x) (Some y) set server Ask e = refl
tags_give (Some x) (Some y) set server (Store c) e = refl
tags_give (Some x) (Some y) set server Stored e = refl

same_givers : (t : CodeTask) (a b : Option StoredCopy) (set : Servers) (server : ℕ) (body : Body) → SameFor t a b → givers_with a set server body ≡ givers_with b set server body
same_givers (Write bytes) a b set server body e = tags_give a b set server body e
same_givers Read a b set server body e = ap (λ o. givers_with o set server body) e
same_givers ListFiles a b set server body e = ap (λ o. givers_with o set server body) e

tag_or : (a b : Option StoredCopy) → tag_in a ≡ tag_in b → (unwrap_or a first_copy).tag ≡ (unwrap_or b first_copy).tag
tag_or None None e = refl
tag_or None (Some y) e = absurd (cc)
tag_or (Some x) None e = absurd (cc)
tag_or (Some x) (Some y) e = some_tags x y e

-- ---- the task

decided_is : (t : CodeTask) (file : FileId) (files : ℕ) (o : Operation) (session floor : ℕ) (best : Option StoredCopy) → task_for t file files ≡ o.task → session ≡ o.session → floor ≡ o.floor → SameFor t best (latest (heard_copies o.heard)) →
    decided_as t session floor (unwrap_or best first_copy) ≡ decided_copy o
decided_is (Write bytes) file files o session floor best t s f b = rw (← t, s, f, tag_or best (latest (heard_copies o.heard)) b) refl
decided_is Read file files o session floor best t s f b = rw (← t, b) refl
decided_is ListFiles file files o session floor best t s f b = rw (← t, b) refl

floor_is : (t : CodeTask) (file : FileId) (files : ℕ) (task : Task) (tag : Tag) (floor : ℕ) → task_for t file files ≡ task → floor_with t tag floor ≡ floor_after task (Some tag) floor
floor_is (Write bytes) file files task tag floor e = rw (← e) refl
floor_is Read file files task tag floor e = rw (← e) refl
floor_is ListFiles file files task tag floor e = rw (← e) refl

-- a file's store round is of the file of its collect round
same_place : (n r q : ℕ) → r ≡ 2 * n + 1 → q ≡ 2 * (n + 1) → (r - 1) / 2 ≡ (q - 1) / 2
same_place n r q e f = omega arith

same_file : (t : CodeTask) (file : FileId) (files : ℕ) (task : Task) (n r q : ℕ) → task_for t file files ≡ task → r ≡ 2 * n + 1 → q ≡ 2 * (n + 1) → round_file task r ≡ round_file task q
same_file (Write bytes) file files task n r q t e f = rw (← t) refl
same_file Read file files task n r q t e f = rw (← t) refl
same_file ListFiles file files task n r q t e f = rw (← t) (λ i. record { volume = file.volume; place = same_place n r q e f i })

own_file : (t : CodeTask) (file : FileId) (files : ℕ) (task : Task) (tenant : ℕ) → task_for t file files ≡ task → file.tenant ≡ tenant → (is_list t ≡ true → file.file ≡ 0) → file ≡ file_of tenant (round_file task 1)
own_file (Write bytes) file files task tenant e own at_start = rw (← e) (λ i. record { tenant = own i; volume = file.volume; file = file.file })
own_file Read file files task tenant e own at_start = rw (← e) (λ i. record { tenant = own i; volume = file.volume; file = file.file })
own_file ListFiles file files task tenant e own at_start = rw (← e) (λ i. record { tenant = own i; volume = file.volume; file = at_start refl i })

finished : (grid : Grid) (up : Servers) (t : CodeTask) (file : FileId) (files : ℕ) (o : Operation) (who : Who) (copy : StoredCopy) (rows : List Row) → task_for t file files ≡ o.task → who.session ≡ o.session → who.op ≡ o.op →
    copy ≡ stored_copy o.collected → rows ≡ rows_of t o.collected → (is_list t ≡ true → nat_lt (length o.collected) files ≡ false) →
    file_done grid up o ≡ HeardDone (outcome_as t who copy rows)
finished grid up (Write bytes) file files o who copy rows t s n c r over = rw (← t, s, n, c) refl
finished grid up Read file files o who copy rows t s n c r over = rw (← t, s, n, c) refl
finished grid up ListFiles file files o who copy rows t s n c r over = rw (← t, over refl, s, n, r) refl

continued : (grid : Grid) (up : Servers) (t : CodeTask) (file : FileId) (files : ℕ) (o : Operation) → task_for t file files ≡ o.task → is_list t ≡ true → nat_lt (length o.collected) files ≡ true → file_done grid up o ≡ begin_collect grid up o
continued grid up (Write bytes) file files o t lists more = absurd (true≢false (sym lists))
continued grid up Read file files o t lists more = absurd (true≢false (sym lists))
continued grid up ListFiles file files o t lists more = rw (← t, more) refl

rows_push : (t : CodeTask) (rows : List Row) (copies : List StoredCopy) (copy : StoredCopy) → rows ≡ rows_of t copies → rows_with t (listed_row copy) rows ≡ rows_of t (copies ++ copy ∷ [])
rows_push (Write bytes) rows copies copy e = e
rows_push Read rows copies copy e = e
rows_push ListFiles rows copies copy e = rw e (sym (map-append listed_row copies (copy ∷ [])))

listed_file : (t : CodeTask) (file : FileId) (files : ℕ) (task : Task) (tenant n : ℕ) → task_for t file files ≡ task → is_list t ≡ true → file.tenant ≡ tenant →
    ◌≡◌ {A = FileId} (record { tenant = file.tenant; volume = file.volume; file = n }) (file_of tenant (round_file task (2 * n + 1)))
listed_file (Write bytes) file files task tenant n t lists own = absurd (true≢false (sym lists))
listed_file Read file files task tenant n t lists own = absurd (true≢false (sym lists))
listed_file ListFiles file files task tenant n t lists own =
    let place : n ≡ (2 * n + 1 - 1) / 2 = omega arith in
    rw (← t) (λ i. record { tenant = own i; volume = file.volume; file = place i })

listed_task : (t : CodeTask) (file : FileId) (files n : ℕ) → is_list t ≡ true → task_for t (record { tenant = file.tenant; volume = file.volume; file = n }) files ≡ task_for t file files
listed_task (Write bytes) file files n lists = absurd (true≢false (sym lists))
listed_task Read file files n lists = absurd (true≢false (sym lists))
listed_task ListFiles file files n lists = refl

listed_floor : (t : CodeTask) (file : FileId) (files : ℕ) (task : Task) (floor : ℕ) → task_for t file files ≡ task → floor ≡ floor_after task None floor
listed_floor (Write bytes) file files task floor e = rw (← e) refl
listed_floor Read file files task floor e = rw (← e) refl
listed_floor ListFiles file files task floor e = rw (← e) refl

-- ---- the value afterwards

-- a message of the operation's round, whose server and copy were added to what was heard
module _ (grid : Grid) (tenant : ℕ) (old : Code) (o : Operation) (up : Servers) (m : Message) (set : ServerSet) (best : Option StoredCopy) (told : ServerSet)
    (s : StandsFor grid tenant old o) (op : m.op ≡ old.who.op) (round : m.round ≡ round_of old.course)
    (adds : servers set ≡ with_server m.server (servers old.heard)) (betters : SameFor old.task best (best_with old.best m.body))
    (gives : servers told ≡ givers_with old.best (servers old.givers) m.server m.body) where
  is_now : is_current o (own_message m) ≡ true
  is_now = current o (own_message m) (op ∙ s.op) (round ∙ s.round)

  heard_now : servers set ≡ heard_servers (with_reply o (own_message m)).heard
  heard_now = adds ∙ ap (with_server m.server) s.heard ∙ sym (heard_servers-hear o.heard (reply_of (own_message m)))

  best_now : SameFor old.task best (latest (heard_copies (with_reply o (own_message m)).heard))
  best_now = same_now old.task best old.best (latest (heard_copies o.heard)) (latest (heard_copies (with_reply o (own_message m)).heard)) m.body betters s.best (sym (latest-hear o.heard m.server m.body))

  givers_now : servers told ≡ givers (greatest (heard_copies (with_reply o (own_message m)).heard)).tag (with_reply o (own_message m)).heard
  givers_now =
      gives ∙ same_givers old.task old.best (latest (heard_copies o.heard)) (servers old.givers) m.server m.body s.best ∙
      ap (λ set. givers_with (latest (heard_copies o.heard)) set m.server m.body) s.givers ∙ sym (givers-hear o.heard m.server m.body)

  ends_now : (b : Bool) → ends_as old (servers set) ≡ b → ends_round grid o.round (with_reply o (own_message m)).heard ≡ b
  ends_now b e = ends_is old grid o.round (with_reply o (own_message m)).heard (servers set) s.its_grid s.round heard_now ∙ e

  noted_stands : ends_as old (servers set) ≡ false → StandsFor grid tenant (record old { heard = set; best = best; givers = told }) (with_reply o (own_message m))
  noted_stands goes_on = record {
    going = s.going;
    its_grid = s.its_grid;
    some = s.some;
    its_tenant = s.its_tenant;
    session = s.session;
    op = s.op;
    task = s.task;
    file = s.file;
    round = s.round;
    collected = s.collected;
    heard = heard_now;
    goes_on = ends_now false goes_on;
    best = best_now;
    givers = givers_now;
    stored = s.stored;
    rows = s.rows;
    floor = s.floor;
  }

  said_noted : ends_as old (servers set) ≡ false → hear grid up o (own_message m) ≡ HeardNoted
  said_noted e = hear_noted grid up o (own_message m) is_now (ends_now false e)

  -- the copy with which the collect round ends
  module _ (copy : StoredCopy) (over : ends_as old (servers set) ≡ true) (collecting : old.course.collecting ≡ true)
      (decided : copy ≡ decided_as old.task old.who.session old.floor (unwrap_or best first_copy)) where
    is_decided : copy ≡ decided_copy (with_reply o (own_message m))
    is_decided = decided ∙ decided_is old.task old.file old.course.files (with_reply o (own_message m)) old.who.session old.floor best s.task s.session s.floor best_now

    is_odd : is_collect o.round ≡ true
    is_odd = round_odd old.course o.round s.round collecting

    round_is : o.round ≡ 2 * old.course.collected + 1
    round_is = sym s.round ∙ rw collecting refl

    its_length : length (o.collected ++ decided_copy (with_reply o (own_message m)) ∷ []) ≡ old.course.collected + 1
    its_length = length_push o.collected (decided_copy (with_reply o (own_message m))) ∙ ap (λ n. n + 1) (sym s.collected)

    stored : stored_copy (o.collected ++ decided_copy (with_reply o (own_message m)) ∷ []) ≡ copy
    stored = stored-push o.collected (decided_copy (with_reply o (own_message m))) ∙ sym is_decided

    -- who told the copy's tag decides whether its store round is left out
    told_ends : ends_store grid (givers (stored_copy (o.collected ++ greatest (heard_copies (with_reply o (own_message m)).heard) ∷ [])).tag (with_reply o (own_message m)).heard) ≡ ends_store old.grid (servers told)
    told_ends = rw (stored-push o.collected (greatest (heard_copies (with_reply o (own_message m)).heard)), givers_now, s.its_grid) refl

    skips_is : skips_store grid (with_decided (with_reply o (own_message m))) ≡ skips_as old (servers told)
    skips_is = go old.task o.task s.task
      where
        go : (t : CodeTask) (task : Task) → task_for t old.file old.course.files ≡ task →
            skips_store grid (record { session = o.session; op = o.op; task = task; round = o.round; heard = (with_reply o (own_message m)).heard; collected = o.collected ++ decided_copy (record { session = o.session; op = o.op; task = task; round = o.round; heard = (with_reply o (own_message m)).heard; collected = o.collected; floor = o.floor }) ∷ []; floor = o.floor }) ≡ (reads t && ends_store old.grid (servers told))
        go (Write bytes) task e = rw (← e) refl
        go Read task e = rw (← e) told_ends
        go ListFiles task e = rw (← e) told_ends

    module _ (stores : skips_as old (servers told) ≡ false) (new : Code) (b : BeginsStore old new copy) where
      -- the operation in its store round
      next : ℕ → Operation
      next n = record { session = o.session; op = o.op; task = o.task; round = n; heard = []; collected = o.collected ++ decided_copy (with_reply o (own_message m)) ∷ []; floor = o.floor }

      said_next : hear grid up o (own_message m) ≡ HeardNext (2 * (old.course.collected + 1)) (Some copy.tag) (round_messages grid up (next (2 * (old.course.collected + 1))))
      unfolding next
      said_next =
          hear_collected grid up o (own_message m) is_now (ends_now true over) is_odd (skips_is ∙ stores) ∙
          rw (its_length, stored) refl

      sent : map (message_of tenant) (round_messages grid up (next (2 * (old.course.collected + 1)))) ≡ sent_to old.grid (store_quorum old.grid up) (store_message old copy)
      unfolding next
      sent =
          let even : is_collect (2 * (old.course.collected + 1)) ≡ false = even_is (old.course.collected + 1) in
          let quorum : round_quorum grid up (2 * (old.course.collected + 1)) ≡ store_quorum old.grid up = rw (even, s.its_grid) refl in
          let body : round_body (2 * (old.course.collected + 1)) (o.collected ++ decided_copy (with_reply o (own_message m)) ∷ []) ≡ Store copy = rw (even, stored) refl in
          let file : old.file ≡ file_of tenant (round_file o.task (2 * (old.course.collected + 1))) = s.file ∙ ap (file_of tenant) (same_file old.task old.file old.course.files o.task old.course.collected o.round (2 * (old.course.collected + 1)) s.task round_is refl) in
          round_messages-sent grid up tenant (next (2 * (old.course.collected + 1))) (store_message old copy) (store_quorum old.grid up) quorum s.its_tenant s.session s.op refl file body ∙ rw s.its_grid refl

      next_stands : StandsFor grid tenant new (moved o (own_message m) (2 * (old.course.collected + 1)) (Some copy.tag))
      next_stands = record {
        going = b.going ∙ s.going;
        its_grid = b.grid ∙ s.its_grid;
        some = s.some;
        its_tenant = ap (λ w. w.tenant) b.who ∙ s.its_tenant;
        session = ap (λ w. w.session) b.who ∙ s.session;
        op = ap (λ w. w.op) b.who ∙ s.op;
        task = rw (b.task, b.file, b.course) s.task;
        file = b.file ∙ s.file ∙ ap (file_of tenant) (same_file old.task old.file old.course.files o.task old.course.collected o.round (2 * (old.course.collected + 1)) s.task round_is refl);
        round = rw b.course refl;
        collected = rw (b.course, is_odd) (sym its_length);
        heard = b.heard;
        goes_on = nothing_heard grid (2 * (old.course.collected + 1)) s.some;
        best = same_of new.task new.best None b.best;
        givers = b.givers;
        stored = b.stored ∙ rw is_odd (sym stored);
        rows = b.rows ∙ rw (b.task, is_odd, ← is_decided) (rows_push old.task old.rows o.collected copy s.rows);
        floor = b.floor ∙ rw (← s.floor) (floor_is old.task old.file old.course.files o.task copy.tag old.floor s.task);
      }

    -- the store round is left out
    module _ (skips : skips_as old (servers told) ≡ true) where
      said_skipped : (is_list old.task ≡ true → nat_lt (old.course.collected + 1) old.course.files ≡ false) →
          hear grid up o (own_message m) ≡ HeardDone (outcome_as old.task old.who copy (rows_with old.task (listed_row copy) old.rows))
      said_skipped last =
          hear_skipped grid up o (own_message m) is_now (ends_now true over) is_odd (skips_is ∙ skips) ∙
          finished grid up old.task old.file old.course.files (with_decided (with_reply o (own_message m))) old.who copy (rows_with old.task (listed_row copy) old.rows) s.task s.session s.op (sym stored)
          (rows_push old.task old.rows o.collected copy s.rows ∙ ap (λ c. rows_of old.task (o.collected ++ c ∷ [])) is_decided) (λ lists. rw its_length (last lists))

      -- a listing goes on with its next file
      module _ (new : Code) (lists : is_list old.task ≡ true) (more : nat_lt (old.course.collected + 1) old.course.files ≡ true) (b : SkipsOn old new copy) where
        later : ℕ → Operation
        later n = record { session = o.session; op = o.op; task = o.task; round = n; heard = []; collected = o.collected ++ decided_copy (with_reply o (own_message m)) ∷ []; floor = o.floor }

        said_over : hear grid up o (own_message m) ≡ HeardNext (2 * (old.course.collected + 1) + 1) None (round_messages grid up (later (2 * (old.course.collected + 1) + 1)))
        unfolding later
        said_over =
            hear_skipped grid up o (own_message m) is_now (ends_now true over) is_odd (skips_is ∙ skips) ∙
            continued grid up old.task old.file old.course.files (with_decided (with_reply o (own_message m))) s.task lists (rw its_length more) ∙
            rw its_length refl

        file_over : file_after old ≡ file_of tenant (round_file o.task (2 * (old.course.collected + 1) + 1))
        file_over = listed_file old.task old.file old.course.files o.task tenant (old.course.collected + 1) s.task lists (ap (λ f. f.tenant) s.file)

        sent_over : map (message_of tenant) (round_messages grid up (later (2 * (old.course.collected + 1) + 1))) ≡ sent_to old.grid (collect_quorum old.grid up) (ask_after old)
        unfolding later
        sent_over =
            let odd : is_collect (2 * (old.course.collected + 1) + 1) ≡ true = odd_is (old.course.collected + 1) in
            let quorum : round_quorum grid up (2 * (old.course.collected + 1) + 1) ≡ collect_quorum old.grid up = rw (odd, s.its_grid) refl in
            let body : round_body (2 * (old.course.collected + 1) + 1) (o.collected ++ decided_copy (with_reply o (own_message m)) ∷ []) ≡ Ask = rw odd refl in
            round_messages-sent grid up tenant (later (2 * (old.course.collected + 1) + 1)) (ask_after old) (collect_quorum old.grid up) quorum s.its_tenant s.session s.op refl file_over body ∙ rw s.its_grid refl

        over_stands : StandsFor grid tenant new (moved o (own_message m) (2 * (old.course.collected + 1) + 1) None)
        over_stands = record {
          going = b.going ∙ s.going;
          its_grid = b.grid ∙ s.its_grid;
          some = s.some;
          its_tenant = ap (λ w. w.tenant) b.who ∙ s.its_tenant;
          session = ap (λ w. w.session) b.who ∙ s.session;
          op = ap (λ w. w.op) b.who ∙ s.op;
          task = rw (b.task, b.file, b.course) (listed_task old.task old.file old.course.files (old.course.collected + 1) lists ∙ s.task);
          file = b.file ∙ file_over;
          round = rw b.course refl;
          collected = rw (b.course, is_odd) (sym its_length);
          heard = b.heard;
          goes_on = nothing_heard grid (2 * (old.course.collected + 1) + 1) s.some;
          best = same_of new.task new.best None b.best;
          givers = b.givers;
          stored = b.stored ∙ rw is_odd (sym stored);
          rows = b.rows ∙ rw (b.task, is_odd, ← is_decided) (rows_push old.task old.rows o.collected copy s.rows);
          floor = b.floor ∙ s.floor ∙ listed_floor old.task old.file old.course.files o.task o.floor s.task;
        }

  -- the store round ends
  module _ (over : ends_as old (servers set) ≡ true) (storing : old.course.collecting ≡ false) where
    is_even : is_collect o.round ≡ false
    is_even = round_even old.course o.round s.round storing

    said_done : (is_list old.task ≡ true → nat_lt old.course.collected old.course.files ≡ false) → hear grid up o (own_message m) ≡ HeardDone (outcome_as old.task old.who old.stored old.rows)
    said_done last =
        hear_stored grid up o (own_message m) is_now (ends_now true over) is_even ∙
        finished grid up old.task old.file old.course.files (with_reply o (own_message m)) old.who old.stored old.rows s.task s.session s.op s.stored s.rows (λ lists. rw (← s.collected) (last lists))

    -- a listing goes on
    module _ (new : Code) (lists : is_list old.task ≡ true) (more : nat_lt old.course.collected old.course.files ≡ true) (b : BeginsCollect old new) where
      after : ℕ → Operation
      after n = record { session = o.session; op = o.op; task = o.task; round = n; heard = []; collected = o.collected; floor = o.floor }

      said_on : hear grid up o (own_message m) ≡ HeardNext (2 * old.course.collected + 1) None (round_messages grid up (after (2 * old.course.collected + 1)))
      unfolding after
      said_on =
          hear_stored grid up o (own_message m) is_now (ends_now true over) is_even ∙
          continued grid up old.task old.file old.course.files (with_reply o (own_message m)) s.task lists (rw (← s.collected) more) ∙
          rw (← s.collected) refl

      file_on : next_file old ≡ file_of tenant (round_file o.task (2 * old.course.collected + 1))
      file_on = listed_file old.task old.file old.course.files o.task tenant old.course.collected s.task lists (ap (λ f. f.tenant) s.file)

      sent_on : map (message_of tenant) (round_messages grid up (after (2 * old.course.collected + 1))) ≡ sent_to old.grid (collect_quorum old.grid up) (next_ask old)
      unfolding after
      sent_on =
          let odd : is_collect (2 * old.course.collected + 1) ≡ true = odd_is old.course.collected in
          let quorum : round_quorum grid up (2 * old.course.collected + 1) ≡ collect_quorum old.grid up = rw (odd, s.its_grid) refl in
          let body : round_body (2 * old.course.collected + 1) o.collected ≡ Ask = rw odd refl in
          round_messages-sent grid up tenant (after (2 * old.course.collected + 1)) (next_ask old) (collect_quorum old.grid up) quorum s.its_tenant s.session s.op refl file_on body ∙ rw s.its_grid refl

      on_stands : StandsFor grid tenant new (moved o (own_message m) (2 * old.course.collected + 1) None)
      on_stands = record {
        going = b.going ∙ s.going;
        its_grid = b.grid ∙ s.its_grid;
        some = s.some;
        its_tenant = ap (λ w. w.tenant) b.who ∙ s.its_tenant;
        session = ap (λ w. w.session) b.who ∙ s.session;
        op = ap (λ w. w.op) b.who ∙ s.op;
        task = rw (b.task, b.file, b.course) (listed_task old.task old.file old.course.files old.course.collected lists ∙ s.task);
        file = b.file ∙ file_on;
        round = rw b.course refl;
        collected = rw (b.course, is_even) s.collected;
        heard = b.heard;
        goes_on = nothing_heard grid (2 * old.course.collected + 1) s.some;
        best = same_of new.task new.best None b.best;
        givers = b.givers;
        stored = b.stored ∙ rw is_even s.stored;
        rows = b.rows ∙ rw (b.task, is_even) s.rows;
        floor = b.floor ∙ s.floor ∙ listed_floor old.task old.file old.course.files o.task o.floor s.task;
      }

-- ---- what the calls of hear owe

-- a current message is of the value's operation and round
pub current_parts : (code : Code) (m : Message) → is_current_as code m ≡ true → (m.op ≡ code.who.op) × (m.round ≡ round_of code.course)
current_parts code m h =
    let of_round = (and_parts (not code.done) ((m.op == code.who.op) && (m.round == round_of code.course)) h).1 in
    let both = and_parts (m.op == code.who.op) (m.round == round_of code.course) of_round in
    (eqb-true m.op code.who.op both.0, eqb-true m.round (round_of code.course) both.1)

pub and-last : (a b : Bool) → (a && b) ≡ false → a ≡ true → b ≡ false
and-last true b e f = e
and-last false b e f = absurd (true≢false (sym f))

pub noted_hears : (old : Code) (up : Servers) (m : Message) (set : ServerSet) (best : Option StoredCopy) (told : ServerSet) → m.op ≡ old.who.op → m.round ≡ round_of old.course →
    servers set ≡ with_server m.server (servers old.heard) → SameFor old.task best (best_with old.best m.body) → servers told ≡ givers_with old.best (servers old.givers) m.server m.body → ends_as old (servers set) ≡ false →
    HearsAs old (record old { heard = set; best = best; givers = told }) up m Noted
noted_hears old up m set best told op round adds betters gives open_ = λ grid tenant o s.
    let said = said_noted grid tenant old o up m set best told s op round adds betters gives open_ in
    rw said (refl, noted_stands grid tenant old o up m set best told s op round adds betters gives open_)

pub collected_hears : (old new : Code) (up : Servers) (m : Message) (set : ServerSet) (best : Option StoredCopy) (told : ServerSet) (copy : StoredCopy) (heard : Heard) → m.op ≡ old.who.op → m.round ≡ round_of old.course →
    servers set ≡ with_server m.server (servers old.heard) → SameFor old.task best (best_with old.best m.body) → servers told ≡ givers_with old.best (servers old.givers) m.server m.body → ends_as old (servers set) ≡ true → old.course.collecting ≡ true →
    copy ≡ decided_as old.task old.who.session old.floor (unwrap_or best first_copy) → skips_as old (servers told) ≡ false → BeginsStore old new copy →
    heard ≡ Next (2 * (old.course.collected + 1)) (Some copy.tag) (sent_to old.grid (store_quorum old.grid up) (store_message old copy)) →
    HearsAs old new up m heard
collected_hears old new up m set best told copy heard op round adds betters gives over collecting decided stores b is = λ grid tenant o s.
    let said = said_next grid tenant old o up m set best told s op round adds betters gives copy over collecting decided stores new b in
    let news = sent grid tenant old o up m set best told s op round adds betters gives copy over collecting decided stores new b in
    rw said (is ∙ ap (Next (2 * (old.course.collected + 1)) (Some copy.tag)) (sym news), next_stands grid tenant old o up m set best told s op round adds betters gives copy over collecting decided stores new b)

pub done_hears : (old new : Code) (up : Servers) (m : Message) (set : ServerSet) (best : Option StoredCopy) (told : ServerSet) (heard : Heard) → m.op ≡ old.who.op → m.round ≡ round_of old.course →
    servers set ≡ with_server m.server (servers old.heard) → SameFor old.task best (best_with old.best m.body) → servers told ≡ givers_with old.best (servers old.givers) m.server m.body → ends_as old (servers set) ≡ true → old.course.collecting ≡ false →
    heard ≡ Done (outcome_as old.task old.who old.stored old.rows) → new.done ≡ true → new.floor ≡ old.floor →
    (is_list old.task ≡ true → nat_lt old.course.collected old.course.files ≡ false) → HearsAs old new up m heard
done_hears old new up m set best told heard op round adds betters gives over storing is done floor last = λ grid tenant o s.
    let said = said_done grid tenant old o up m set best told s op round adds betters gives over storing last in
    rw said (is, (done, floor ∙ s.floor))

-- ---- what the other calls owe

-- the result of the step that begins a store round
pub collected_result : {E : Type 0} (old new : Code) (up : Servers) (m : Message) (set : ServerSet) (best : Option StoredCopy) (told : ServerSet) (copy : StoredCopy) (r : Result Heard E) → m.op ≡ old.who.op → m.round ≡ round_of old.course →
    servers set ≡ with_server m.server (servers old.heard) → SameFor old.task best (best_with old.best m.body) → servers told ≡ givers_with old.best (servers old.givers) m.server m.body → ends_as old (servers set) ≡ true → old.course.collecting ≡ true →
    copy ≡ decided_as old.task old.who.session old.floor (unwrap_or best first_copy) → skips_as old (servers told) ≡ false → OnOk r (BeginsStore old new copy) →
    IfOk r (λ heard. heard ≡ Next (2 * (old.course.collected + 1)) (Some copy.tag) (sent_to old.grid (store_quorum old.grid up) (store_message old copy))) →
    IfOk r (HearsAs old new up m)
collected_result old new up m set best told copy (Ok heard) op round adds betters gives over collecting decided stores b is = collected_hears old new up m set best told copy heard op round adds betters gives over collecting decided stores b is
collected_result old new up m set best told copy (Err e) op round adds betters gives over collecting decided stores b is = tt

-- the result of a read or a listing that is done without a store round
pub skipped_result : {E : Type 0} (old new : Code) (up : Servers) (m : Message) (set : ServerSet) (best : Option StoredCopy) (told : ServerSet) (copy : StoredCopy) (r : Result Heard E) → m.op ≡ old.who.op → m.round ≡ round_of old.course →
    servers set ≡ with_server m.server (servers old.heard) → SameFor old.task best (best_with old.best m.body) → servers told ≡ givers_with old.best (servers old.givers) m.server m.body → ends_as old (servers set) ≡ true → old.course.collecting ≡ true →
    copy ≡ decided_as old.task old.who.session old.floor (unwrap_or best first_copy) → skips_as old (servers told) ≡ true →
    IfOk r (λ heard. heard ≡ Done (outcome_as old.task old.who copy (rows_with old.task (listed_row copy) old.rows))) → OnOk r (new.done ≡ true) → new.floor ≡ old.floor →
    (is_list old.task ≡ true → nat_lt (old.course.collected + 1) old.course.files ≡ false) → IfOk r (HearsAs old new up m)
skipped_result old new up m set best told copy (Ok heard) op round adds betters gives over collecting decided skips is done floor last = λ grid tenant o s.
    let said = said_skipped grid tenant old o up m set best told s op round adds betters gives copy over collecting decided skips last in
    rw said (is, (done, floor ∙ s.floor))
skipped_result old new up m set best told copy (Err e) op round adds betters gives over collecting decided skips is done floor last = tt

-- the result of a listing that goes on without a store round
pub over_result : {E : Type 0} (old new : Code) (up : Servers) (m : Message) (set : ServerSet) (best : Option StoredCopy) (told : ServerSet) (copy : StoredCopy) (r : Result Heard E) → m.op ≡ old.who.op → m.round ≡ round_of old.course →
    servers set ≡ with_server m.server (servers old.heard) → SameFor old.task best (best_with old.best m.body) → servers told ≡ givers_with old.best (servers old.givers) m.server m.body → ends_as old (servers set) ≡ true → old.course.collecting ≡ true →
    copy ≡ decided_as old.task old.who.session old.floor (unwrap_or best first_copy) → skips_as old (servers told) ≡ true →
    is_list old.task ≡ true → nat_lt (old.course.collected + 1) old.course.files ≡ true → OnOk r (SkipsOn old new copy) →
    IfOk r (λ heard. heard ≡ Next (2 * (old.course.collected + 1) + 1) None (sent_to old.grid (collect_quorum old.grid up) (ask_after old))) →
    IfOk r (HearsAs old new up m)
over_result old new up m set best told copy (Ok heard) op round adds betters gives over collecting decided skips lists more b is = λ grid tenant o s.
    let said = said_over grid tenant old o up m set best told s op round adds betters gives copy over collecting decided skips new lists more b in
    let news = sent_over grid tenant old o up m set best told s op round adds betters gives copy over collecting decided skips new lists more b in
    rw said (is ∙ ap (Next (2 * (old.course.collected + 1) + 1) None) (sym news), over_stands grid tenant old o up m set best told s op round adds betters gives copy over collecting decided skips new lists more b)
over_result old new up m set best told copy (Err e) op round adds betters gives over collecting decided skips lists more b is = tt

pub done_result : {E : Type 0} (old new : Code) (up : Servers) (m : Message) (set : ServerSet) (best : Option StoredCopy) (told : ServerSet) (r : Result Heard E) → m.op ≡ old.who.op → m.round ≡ round_of old.course →
    servers set ≡ with_server m.server (servers old.heard) → SameFor old.task best (best_with old.best m.body) → servers told ≡ givers_with old.best (servers old.givers) m.server m.body → ends_as old (servers set) ≡ true → old.course.collecting ≡ false →
    IfOk r (λ heard. heard ≡ Done (outcome_as old.task old.who old.stored old.rows)) → OnOk r (new.done ≡ true) → new.floor ≡ old.floor →
    (is_list old.task ≡ true → nat_lt old.course.collected old.course.files ≡ false) → IfOk r (HearsAs old new up m)
done_result old new up m set best told (Ok heard) op round adds betters gives over storing is done floor last = done_hears old new up m set best told heard op round adds betters gives over storing is done floor last
done_result old new up m set best told (Err e) op round adds betters gives over storing is done floor last = tt

pub on_hears : (old new : Code) (up : Servers) (m : Message) (set : ServerSet) (best : Option StoredCopy) (told : ServerSet) (heard : Heard) → m.op ≡ old.who.op → m.round ≡ round_of old.course →
    servers set ≡ with_server m.server (servers old.heard) → SameFor old.task best (best_with old.best m.body) → servers told ≡ givers_with old.best (servers old.givers) m.server m.body → ends_as old (servers set) ≡ true → old.course.collecting ≡ false →
    is_list old.task ≡ true → nat_lt old.course.collected old.course.files ≡ true → BeginsCollect old new →
    heard ≡ Next (2 * old.course.collected + 1) None (sent_to old.grid (collect_quorum old.grid up) (next_ask old)) →
    HearsAs old new up m heard
on_hears old new up m set best told heard op round adds betters gives over storing lists more b is = λ grid tenant o s.
    let said = said_on grid tenant old o up m set best told s op round adds betters gives over storing new lists more b in
    let news = sent_on grid tenant old o up m set best told s op round adds betters gives over storing new lists more b in
    rw said (is ∙ ap (Next (2 * old.course.collected + 1) None) (sym news), on_stands grid tenant old o up m set best told s op round adds betters gives over storing new lists more b)

no_rows : (t : CodeTask) → [] ≡ rows_of t []
no_rows (Write bytes) = refl
no_rows Read = refl
no_rows ListFiles = refl

-- a fresh value stands for an operation that begins
pub fresh_begins : (grid : Grid) (up : Servers) (who : Who) (t : CodeTask) (task : Task) (files : ℕ) (file : FileId) (floor : ℕ) (code : Code) (quorum : Servers) (messages : List Message) →
    task_for t file files ≡ task → file.tenant ≡ who.tenant → (is_list t ≡ true → file.file ≡ 0) → IsFresh code grid who t files file floor → collect_quorum grid up ≡ Some quorum →
    messages ≡ sent_to grid (Some quorum) (first_ask who file) → Begins grid who task floor up code messages
fresh_begins grid up who t task files file floor code quorum messages is_task own at_start f chosen sent =
    let file_is : file ≡ file_of who.tenant (round_file task 1) = own_file t file files task who.tenant is_task own at_start in (
      record {
        going = f.going;
        its_grid = f.its_grid;
        some = f.some;
        its_tenant = ap (λ w. w.tenant) f.its_who;
        session = ap (λ w. w.session) f.its_who;
        op = ap (λ w. w.op) f.its_who;
        task = rw (f.its_task, f.its_file, f.course) is_task;
        file = f.its_file ∙ file_is;
        round = rw f.course refl;
        collected = rw f.course refl;
        heard = f.heard;
        goes_on = nothing_heard grid 1 f.some;
        best = same_of code.task code.best None f.best;
        givers = f.givers;
        stored = f.stored;
        rows = f.rows ∙ no_rows code.task;
        floor = f.its_floor;
      },
      sent ∙ sym (round_messages-sent grid up who.tenant (begun who.session who.op task floor) (first_ask who file) (Some quorum) chosen refl refl refl refl file_is refl),
    )

-- the quorum and the body of the value's round are the operation's
quorum_is : (grid : Grid) (tenant : ℕ) (code : Code) (o : Operation) (up : Servers) → StandsFor grid tenant code o → round_quorum grid up o.round ≡ quorum_as code up
quorum_is grid tenant code o up s = go code.course.collecting refl
  where
    go : (b : Bool) → code.course.collecting ≡ b → round_quorum grid up o.round ≡ quorum_as code up
    go true e = let odd : is_collect o.round ≡ true = round_odd code.course o.round s.round e in rw (e, odd, s.its_grid) refl
    go false e = let even : is_collect o.round ≡ false = round_even code.course o.round s.round e in rw (e, even, s.its_grid) refl

body_is : (grid : Grid) (tenant : ℕ) (code : Code) (o : Operation) → StandsFor grid tenant code o → round_body o.round o.collected ≡ (message_as code).body
body_is grid tenant code o s = go code.course.collecting refl
  where
    go : (b : Bool) → code.course.collecting ≡ b → round_body o.round o.collected ≡ (message_as code).body
    go true e = let odd : is_collect o.round ≡ true = round_odd code.course o.round s.round e in rw (e, odd) refl
    go false e = let even : is_collect o.round ≡ false = round_even code.course o.round s.round e in rw (e, even) (ap Store (sym s.stored))

-- the round's message goes out once more
pub resends : (code : Code) (up : Servers) (quorum : ServerSet) (messages : List Message) → quorum_as code up ≡ Some (servers quorum) →
    messages ≡ map (addressed (message_as code)) (rising code.grid (apart (servers quorum) (servers code.heard))) → ResendsAs code up messages
resends code up quorum messages chosen sent = λ grid tenant o s.
    let goes_on : ends_as code (servers code.heard) ≡ false = sym (ends_is code grid o.round o.heard (servers code.heard) s.its_grid s.round s.heard) ∙ s.goes_on in (
      servers quorum,
      quorum_is grid tenant code o up s ∙ chosen,
      sent ∙ rw (s.its_grid, s.heard) (sym (messages_to-sent grid tenant o (message_as code) (apart (servers quorum) (heard_servers o.heard)) s.its_tenant s.session s.op s.round s.file (body_is grid tenant code o s))),
      rw (sent, length-map) (one_unheard code up (servers quorum) (servers code.heard) chosen goes_on),
    )

-- ---- whatever the content of a copy is, where its tag is taken

-- nothing that is kept of a read depends on it
not_newer : (b c d : StoredCopy) → c.tag ≡ d.tag → not (is_less b.tag c.tag) ≡ true → newer_of b c ≡ newer_of b d
not_newer b c d e h =
    let less : is_less b.tag c.tag ≡ false = not-true (is_less b.tag c.tag) h in
    let other : is_less b.tag d.tag ≡ false = rw e at less in
    rw (less, other) refl

-- and of a write its tag alone
tags_better : (best : Option StoredCopy) (c d : StoredCopy) → c.tag ≡ d.tag → tag_in (best_with best (Copy c)) ≡ tag_in (best_with best (Copy d))
tags_better None c d e = ap Some e
tags_better (Some b) c d e =
    elim (cases_Bool (is_less b.tag d.tag)) [
      | inl h ↦ rw (e, h) refl
      | inr h ↦ rw (e, h) refl
    ]

better_by : (t : CodeTask) (best : Option StoredCopy) (c d : StoredCopy) → c.tag ≡ d.tag → takes_by t best c.tag ≡ true → SameFor t (best_with best (Copy c)) (best_with best (Copy d))
better_by (Write bytes) best c d e h = tags_better best c d e
better_by Read None c d e h = absurd (true≢false (sym h))
better_by Read (Some b) c d e h = ap Some (not_newer b c d e h)
better_by ListFiles None c d e h = absurd (true≢false (sym h))
better_by ListFiles (Some b) c d e h = ap Some (not_newer b c d e h)

pub says_better : (code : Code) (a b : Body) → IsTaken code a b → SameFor code.task (best_with code.best a) (best_with code.best b)
says_better code (Copy c) (Copy d) h = better_by code.task code.best c d h.0 (and_parts code.course.collecting (takes_by code.task code.best c.tag) h.1).1
says_better code (Copy c) Ask h = absurd h
says_better code (Copy c) (Store d) h = absurd h
says_better code (Copy c) Stored h = absurd h
says_better code Ask b h = absurd h
says_better code (Store c) b h = absurd h
says_better code Stored b h = absurd h

copies_give : (best : Option StoredCopy) (set : Servers) (server : ℕ) (c d : StoredCopy) → c.tag ≡ d.tag → givers_with best set server (Copy c) ≡ givers_with best set server (Copy d)
copies_give None set server c d e = refl
copies_give (Some b) set server c d e = rw e refl

pub says_gives : (code : Code) (set : Servers) (server : ℕ) (a b : Body) → IsTaken code a b → givers_with code.best set server a ≡ givers_with code.best set server b
says_gives code set server (Copy c) (Copy d) h = copies_give code.best set server c d h.0
says_gives code set server (Copy c) Ask h = absurd h
says_gives code set server (Copy c) (Store d) h = absurd h
says_gives code set server (Copy c) Stored h = absurd h
says_gives code set server Ask b h = absurd h
says_gives code set server (Store c) b h = absurd h
says_gives code set server Stored b h = absurd h

pub says_view : (code : Code) (seen a b : Body) → seen ≡ a → IsTaken code a b → SameFor code.task (best_with code.best seen) (best_with code.best b)
says_view code seen a b e h = rw e (says_better code a b h)

pub says_given : (code : Code) (set : Servers) (a b : Message) → DifferInContent code a b → givers_with code.best set a.server a.body ≡ givers_with code.best set b.server b.body
says_given code set a b d = says_gives code set a.server a.body b.body d.body ∙ ap (λ s. givers_with code.best set s b.body) (sym d.server)

pub for_each : {E : Type 0} (old new : Code) (up : Servers) (message : Message) (r : Result Heard E) →
    ((m : Message) → DifferInContent old message m → IfOk r (HearsAs old new up m)) → IfOk r (HearsTag old new up message)
for_each old new up message (Ok heard) h = λ m d. h m d
for_each old new up message (Err e) h = tt

-- ---- what the round stores

pub stores_now : (code : Code) (op round : ℕ) (file : FileId) → is_some (stored_as code op round file) ≡ true → StoresNow code op round file code.stored
stores_now code op round file h = λ grid tenant o s.
    let a = and_parts (not code.done) (not code.course.collecting && ((op == code.who.op) && ((round == round_of code.course) && ((file.volume == code.file.volume) && (file.file == code.file.file))))) (holds _ h) in
    let b = and_parts (not code.course.collecting) ((op == code.who.op) && ((round == round_of code.course) && ((file.volume == code.file.volume) && (file.file == code.file.file)))) a.1 in
    let d = and_parts (op == code.who.op) ((round == round_of code.course) && ((file.volume == code.file.volume) && (file.file == code.file.file))) b.1 in
    let e = and_parts (round == round_of code.course) ((file.volume == code.file.volume) && (file.file == code.file.file)) d.1 in
    let f = and_parts (file.volume == code.file.volume) (file.file == code.file.file) e.1 in
    let volume : file.volume ≡ code.file.volume = eqb-true file.volume code.file.volume f.0 in
    let place : file.file ≡ code.file.file = eqb-true file.file code.file.file f.1 in
    let storing : code.course.collecting ≡ false = not-true code.course.collecting b.0 in
    let body : (message_as code).body ≡ Store code.stored = rw storing refl in (
      eqb-true op code.who.op d.0 ∙ s.op,
      eqb-true round (round_of code.course) e.0 ∙ s.round,
      (λ i. record { volume = volume i; place = place i }) ∙ ap file_place s.file,
      body_is grid tenant code o s ∙ body,
    )
  where
    holds : (b : Bool) → is_some (if b then Some code.stored else None) ≡ true → b ≡ true
    holds true h = refl
    holds false h = absurd (true≢false (sym h))
