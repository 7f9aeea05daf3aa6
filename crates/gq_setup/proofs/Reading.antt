-- A setup's text tells it.
use Rattle.std.proofs.Common.{◌≡◌, ℕ, ◌+◌, ◌*◌, ◌<◌, ◌≤◌, ◌^◌, List, [], ◌∷◌, ◌++◌, length, get_or, zero, suc, Option, Some, None, Result, Ok, Err, Bool, true, false, cond, refl, sym, ap, ◌∙◌, subst, arith, append_assoc, append-nil}
use Rattle.std.specs.Prelude.{map, OnOk, codes, decimal, nat_lt, slice_get, unwrap_or}
use Rattle.std.specs.List.{All, flat_map, list_all}
use Rattle.std.specs.Str.{bytes_eq}
use Rattle.std.proofs.lemmas.Bool.{and_parts, ltb-true, leb-true}
use Rattle.std.proofs.lemmas.Option.{slice_get-get_or, unwrap_or-slice_get}
use Rattle.std.proofs.lemmas.Slice.Eq.{bytes_eq-Decides}
use Rattle.gq_grid.specs.Grid.{is_side}
use Rattle.gq_grid.specs.declared.TheConstants.{MOST_SIDE}
use Rattle.gq_desk.specs.CheckedPlan.{CheckedPlan, nobody, row_at}
use Rattle.gq_desk.specs.declared.plans.TenantRow.{TenantRow}
use Rattle.gq_desk.specs.Names.{is_name}
use Rattle.gq_desk.specs.Plans.{is_named, rows_fault, table_fault}
use Rattle.gq_desk.proofs.SoundRows.{or_none}
use Rattle.gq_desk.specs.Volumes.{Account}
use Rattle.gq_model.specs.declared.events.Event.{Event}
use Rattle.gq_model.specs.declared.events.Event.TheVariants.{Server}
use Rattle.gq_model.specs.declared.events.Line.{Line}
use Rattle.gq_model.specs.Events.{IsIn}
use Rattle.gq_lines.specs.Words.{Word, words_of}
use Rattle.gq_lines.specs.Lines.{lines_of}
use Rattle.gq_text.specs.Input.{◌>>=◌, line_of, server_line_of, one_number_of, two_numbers_of, three_numbers_of, file_content_of, place_named, tenant_event, event_of, event_of_words}
use Rattle.gq_lines.specs.Written.{spaced}
use Rattle.gq_text.specs.Canonical.{event_line, plan_text, script_text, IsScriptOf, IsPlan}
use Rattle.gq_lines.proofs.Numbers.{numbers_read_back}
use Rattle.gq_lines.proofs.Plain.{is_plain, are_plain, decimal_plain, line_inner}
use Rattle.gq_text.proofs.Plain.{name_plain}
use Rattle.gq_lines.proofs.LinesBack.{words_back, line_back}
use Rattle.gq_text.proofs.PlanNames.{HasPlace, place_of_row, ok_same}
use Rattle.gq_text.proofs.PlanIs.{plan_is, small_grid}
use Rattle.gq_text.proofs.ScriptBack.{plan_back}
use Rattle.gq_setup.specs.declared.openings.Opening.{Opening}
use Rattle.gq_setup.specs.declared.openings.ChunkRoom.{ChunkRoom}
use Rattle.gq_setup.specs.Setups.{Setup, NotHad, NotLost, NotGone, accounts_of, after_opening, holdings, opening_fault, CanOpen, can_have, CanHave, can_lose, CanLose, can_go, CanGo, line_opens, event_opens, many_told, room_from, room_told, word_behind, loss_word, gone_word, with_opening, with_room, with_loss, with_gone, after_opens, after_opening_line, after_has, after_room_line, after_loses, after_goes, after_gone_line, after_told, after_line, then_told, after_lines, plan_alone, first_behind, behind_plan, setup_of}
use Rattle.gq_setup.specs.Texts.{opening_event, room_line, loss_line, gone_line, setup_text, node_text, setup_of_node_text}
use Rattle.gq_setup.proofs.LineByLine.{after_openings-length, accounts-length, one_opened, opens_is}
use Rattle.gq_setup.proofs.WholeLines.{events_whole, behind_line}

-- ---- a line of two words opens no volume

either : (t : ℕ) (b : Bool) (x y : Line) → line_opens t x ≡ None → line_opens t y ≡ None → line_opens t (cond b x y) ≡ None
either t true x y one other = one
either t false x y one other = other

one_word : (t : ℕ) (word : Word) → line_opens t (line_of (word ∷ [])) ≡ None
unfolding line_of one_number_of two_numbers_of three_numbers_of file_content_of
one_word t word =
    either t (bytes_eq word (codes "quorum")) _ _ refl (either t (bytes_eq word (codes "open")) _ _ refl (either t (bytes_eq word (codes "volumes")) _ _ refl (
    either t (bytes_eq word (codes "write")) _ _ refl (either t (bytes_eq word (codes "read")) _ _ refl (either t (bytes_eq word (codes "list")) _ _ refl (
    either t (bytes_eq word (codes "deliver")) _ _ refl (either t (bytes_eq word (codes "lose")) _ _ refl (either t (bytes_eq word (codes "retry")) _ _ refl (
    either t (bytes_eq word (codes "abandon")) _ _ refl refl)))))))))

two_words : (plan : CheckedPlan) (a b : Word) → event_opens (event_of_words plan (a ∷ b ∷ [])) ≡ None
unfolding event_of_words
two_words plan a b = by (bytes_eq a (codes "server")) (place_named plan a)
  where
    by : (s : Bool) (place : Option ℕ) → event_opens (cond s (Server (server_line_of (b ∷ []))) (tenant_event place (b ∷ []))) ≡ None
    by true place = refl
    by false None = refl
    by false (Some t) = one_word t b

opens_none : (o : Opening) (read : Option Opening) → read ≡ None → read ≡ Some o → ⊥
opens_none o read none some = cc

no_word : (verb : Word) (plan : CheckedPlan) (words : List Word) (o : Opening) → event_opens (event_of_words plan words) ≡ Some o → word_behind verb words ≡ None
no_word verb plan [] o is = refl
no_word verb plan (a ∷ []) o is = refl
no_word verb plan (a ∷ b ∷ []) o is = absurd (opens_none o (event_opens (event_of_words plan (a ∷ b ∷ []))) (two_words plan a b) is)
no_word verb plan (a ∷ b ∷ c ∷ words) o is = refl

-- ---- a line that opens a volume gives no room for chunks

chunks_of_one : (t : ℕ) (c : Word) → line_opens t (line_of (codes "chunks" ∷ c ∷ [])) ≡ None
unfolding line_of one_number_of two_numbers_of three_numbers_of file_content_of
chunks_of_one t c = refl

three_words : (plan : CheckedPlan) (a b c : Word) → bytes_eq b (codes "chunks") ≡ true → event_opens (event_of_words plan (a ∷ b ∷ c ∷ [])) ≡ None
unfolding event_of_words
three_words plan a b c same =
    let is : b ≡ codes "chunks" = (bytes_eq-Decides b (codes "chunks")).0 same in
    subst (λ w. event_opens (event_of_words plan (a ∷ w ∷ c ∷ [])) ≡ None) (sym is) (by (bytes_eq a (codes "server")) (place_named plan a))
  where
    by : (s : Bool) (place : Option ℕ) → event_opens (cond s (Server (server_line_of (codes "chunks" ∷ c ∷ []))) (tenant_event place (codes "chunks" ∷ c ∷ []))) ≡ None
    by true place = refl
    by false None = refl
    by false (Some t) = chunks_of_one t c

no_room : (plan : CheckedPlan) (words : List Word) (o : Opening) → event_opens (event_of_words plan words) ≡ Some o → room_told plan words ≡ None
no_room plan [] o is = refl
no_room plan (a ∷ []) o is = refl
no_room plan (a ∷ b ∷ []) o is = refl
no_room plan (a ∷ b ∷ c ∷ []) o is = by (bytes_eq b (codes "chunks")) refl
  where
    by : (v : Bool) → bytes_eq b (codes "chunks") ≡ v → room_told plan (a ∷ b ∷ c ∷ []) ≡ None
    by false other = rw other refl
    by true same = absurd (opens_none o (event_opens (event_of_words plan (a ∷ b ∷ c ∷ []))) (three_words plan a b c same) is)
no_room plan (a ∷ b ∷ c ∷ d ∷ words) o is = refl

-- ---- a line that opens one volume opens not several alike

open_of_four : (t : ℕ) (c d e f : Word) → line_opens t (line_of (codes "open" ∷ c ∷ d ∷ e ∷ f ∷ [])) ≡ None
unfolding line_of one_number_of two_numbers_of three_numbers_of file_content_of
open_of_four t c d e f = refl

six_words : (plan : CheckedPlan) (a b c d e f : Word) → bytes_eq b (codes "open") ≡ true → event_opens (event_of_words plan (a ∷ b ∷ c ∷ d ∷ e ∷ f ∷ [])) ≡ None
unfolding event_of_words
six_words plan a b c d e f same =
    let is : b ≡ codes "open" = (bytes_eq-Decides b (codes "open")).0 same in
    subst (λ w. event_opens (event_of_words plan (a ∷ w ∷ c ∷ d ∷ e ∷ f ∷ [])) ≡ None) (sym is) (by (bytes_eq a (codes "server")) (place_named plan a))
  where
    by : (s : Bool) (place : Option ℕ) → event_opens (cond s (Server (server_line_of (codes "open" ∷ c ∷ d ∷ e ∷ f ∷ []))) (tenant_event place (codes "open" ∷ c ∷ d ∷ e ∷ f ∷ []))) ≡ None
    by true place = refl
    by false None = refl
    by false (Some t) = open_of_four t c d e f

not_many : (plan : CheckedPlan) (words : List Word) (o : Opening) → event_opens (event_of_words plan words) ≡ Some o → many_told plan words ≡ None
not_many plan [] o is = refl
not_many plan (a ∷ []) o is = refl
not_many plan (a ∷ b ∷ []) o is = refl
not_many plan (a ∷ b ∷ c ∷ []) o is = refl
not_many plan (a ∷ b ∷ c ∷ d ∷ []) o is = refl
not_many plan (a ∷ b ∷ c ∷ d ∷ e ∷ []) o is = refl
not_many plan (a ∷ b ∷ c ∷ d ∷ e ∷ f ∷ []) o is = by (bytes_eq b (codes "open")) refl
  where
    by : (v : Bool) → bytes_eq b (codes "open") ≡ v → many_told plan (a ∷ b ∷ c ∷ d ∷ e ∷ f ∷ []) ≡ None
    by false other = rw other refl
    by true same = absurd (opens_none o (event_opens (event_of_words plan (a ∷ b ∷ c ∷ d ∷ e ∷ f ∷ []))) (six_words plan a b c d e f same) is)
not_many plan (a ∷ b ∷ c ∷ d ∷ e ∷ f ∷ g ∷ words) o is = refl

-- ---- openings

opens_line : (n : ℕ) (setup : Setup) (line : List ℕ) (o : Opening) → event_of setup.plan line ≡ opening_event o → opening_fault (holdings setup) o ≡ None → after_line n setup line ≡ Ok (with_opening setup o)
opens_line n setup line o event sound =
    let opens : event_opens (event_of setup.plan line) ≡ Some o = ap event_opens event in
    ap (after_told n setup line) (no_word (codes "replace") setup.plan (words_of line) o opens) ∙ ap (after_gone_line n setup line) (no_word (codes "gone") setup.plan (words_of line) o opens)
    ∙ ap (after_room_line n setup line) (no_room setup.plan (words_of line) o opens) ∙ ap (after_opening_line n setup line) (not_many setup.plan (words_of line) o opens) ∙ ap (after_opens n setup) opens ∙ opens_is n setup (holdings setup) o refl sound

first_same : (a b : Event) (more others : List Event) → a ∷ more ≡ b ∷ others → (a ≡ b) × (more ≡ others)
first_same a b more others same = (cc, cc)

none_left : (a : Event) (more : List Event) → [] ≡ a ∷ more → ⊥
none_left a more same = cc

-- what is told behind lines that open these volumes
record TellsOpen (n : ℕ) (setup : Setup) (openings : List Opening) (lines more : List (List ℕ)) : Type 0 where
  number : ℕ
  told : after_lines n setup (lines ++ more) ≡ after_lines number (record setup { openings = setup.openings ++ openings }) more

openings_back : (n : ℕ) (setup : Setup) (openings : List Opening) (lines more : List (List ℕ)) → map (event_of setup.plan) lines ≡ map opening_event openings → CanOpen (holdings setup) openings → TellsOpen n setup openings lines more
openings_back n setup [] [] more are can = record { number = n; told = ap (λ os. after_lines n (record setup { openings = os }) more) (sym (append-nil setup.openings)) }
openings_back n setup [] (line ∷ lines) more are can = absurd (none_left (event_of setup.plan line) (map (event_of setup.plan) lines) (sym are))
openings_back n setup (o ∷ openings) [] more are can = absurd (none_left (opening_event o) (map opening_event openings) are)
openings_back n setup (o ∷ openings) (line ∷ lines) more are can =
    let same = first_same (event_of setup.plan line) (opening_event o) (map (event_of setup.plan) lines) (map opening_event openings) are in
    let next : CanOpen (holdings (with_opening setup o)) openings = subst (λ a. CanOpen a openings) (sym (one_opened (accounts_of setup.plan) setup.openings o)) can.2 in
    let later = openings_back (n + 1) (with_opening setup o) openings lines more same.1 next in
    record {
      number = later.number;
      told = ap (λ r. then_told r (λ x. after_lines (n + 1) x (lines ++ more))) (opens_line n setup line o same.0 can.1)
          ∙ later.told
          ∙ ap (λ os. after_lines later.number (record setup { openings = os }) more) (append_assoc setup.openings (o ∷ []) openings);
    }

-- ---- rooms for chunks

named_at : (rows : List TenantRow) (t : ℕ) → t < length rows → list_all is_named rows ≡ true → is_name (unwrap_or (slice_get rows t) nobody).name ≡ true
named_at [] t within named = absurd (omega arith)
named_at (row ∷ rows) zero within named = (and_parts (is_named row) (list_all is_named rows) named).0
named_at (row ∷ rows) (suc t) within named = named_at rows t (omega arith) (and_parts (is_named row) (list_all is_named rows) named).1

-- a tenant's name is a word, and leads to its place
record Named (plan : CheckedPlan) (t : ℕ) : Type 0 where
  plain : is_plain (row_at plan t).name ≡ true
  found : place_named plan (row_at plan t).name ≡ Some t

named : (plan : CheckedPlan) → IsPlan plan → (t : ℕ) → t < length plan.rows → Named plan t
named plan is t within =
    let name = named_at plan.rows t within is.sound.named in
    let place : HasPlace plan t (row_at plan t) =
    place_of_row plan (or_none (rows_fault [] plan.rows) (table_fault plan.blocks plan.rows) is.sound.fault).0 t (row_at plan t)
    (slice_get-get_or plan.rows t nobody within ∙ ap Some (sym (unwrap_or-slice_get plan.rows t nobody))) name in
    record { plain = name_plain (row_at plan t).name name; found = place.found }

room_read : (plan : CheckedPlan) (room : ChunkRoom) → Named plan room.tenant → room.kib < 2 ^ 32 → room_from (place_named plan (row_at plan room.tenant).name) (decimal room.kib) ≡ Some room
room_read plan room is low =
    ap (λ o. room_from o (decimal room.kib)) is.found
    ∙ ap (λ (o : Option ℕ). o >>= (λ kib. Some (let x : ChunkRoom = record { tenant = room.tenant; kib = kib } in x))) (numbers_read_back room.kib low)

room_plain : (room : ChunkRoom) → room.kib < 2 ^ 32 → are_plain (codes "chunks" ∷ decimal room.kib ∷ []) ≡ true
room_plain room low = rw (decimal_plain room.kib low) refl

had_line : (n : ℕ) (setup : Setup) (room : ChunkRoom) → Named setup.plan room.tenant → room.kib < 2 ^ 32 → can_have setup.rooms room ≡ true →
    after_line n setup ((row_at setup.plan room.tenant).name ++ spaced (codes "chunks" ∷ decimal room.kib ∷ [])) ≡ Ok (with_room setup room)
had_line n setup room is low can =
    let name : Word = (row_at setup.plan room.tenant).name in
    let line : List ℕ = name ++ spaced (codes "chunks" ∷ decimal room.kib ∷ []) in
    let words = words_back name (codes "chunks" ∷ decimal room.kib ∷ []) is.plain (room_plain room low) in
    ap (λ ws. after_told n setup line (loss_word ws)) words
    ∙ ap (λ ws. after_gone_line n setup line (gone_word ws)) words
    ∙ ap (λ ws. after_room_line n setup line (room_told setup.plan ws)) words
    ∙ ap (after_has n setup) (room_read setup.plan room is low)
    ∙ ap (λ b. cond b (Ok (with_room setup room)) (Err (n, NotHad))) can

-- what is told behind lines that give these rooms
record TellsRooms (n : ℕ) (setup : Setup) (rooms : List ChunkRoom) (rest : List ℕ) : Type 0 where
  number : ℕ
  told : after_lines n setup (lines_of (flat_map (room_line setup.plan) rooms ++ rest)) ≡ after_lines number (record setup { rooms = setup.rooms ++ rooms }) (lines_of rest)

rooms_back : (n : ℕ) (setup : Setup) (rooms : List ChunkRoom) (rest : List ℕ) → IsPlan setup.plan → CanHave setup.plan setup.rooms rooms → TellsRooms n setup rooms rest
rooms_back n setup [] rest sound can = record { number = n; told = ap (λ rs. after_lines n (record setup { rooms = rs }) (lines_of rest)) (sym (append-nil setup.rooms)) }
rooms_back n setup (room ∷ rooms) rest sound can =
    let is = named setup.plan sound room.tenant can.0 in
    let more : List ℕ = flat_map (room_line setup.plan) rooms in
    let later = rooms_back (n + 1) (with_room setup room) rooms rest sound can.3 in
    record {
      number = later.number;
      told = ap (λ text. after_lines n setup (lines_of text)) (append_assoc (room_line setup.plan room) more rest)
          ∙ ap (after_lines n setup) (line_back (row_at setup.plan room.tenant).name (codes "chunks" ∷ decimal room.kib ∷ []) (more ++ rest) is.plain (room_plain room can.1))
          ∙ ap (λ r. then_told r (λ x. after_lines (n + 1) x (lines_of (more ++ rest)))) (had_line n setup room is can.1 can.2)
          ∙ later.told
          ∙ ap (λ rs. after_lines later.number (record setup { rooms = rs }) (lines_of rest)) (append_assoc setup.rooms (room ∷ []) rooms);
    }

-- ---- losses

low_place : (plan : CheckedPlan) (lost : List ℕ) (place : ℕ) → plan.grid.rows * plan.grid.cols ≤ 64 → can_lose plan lost place ≡ true → place < 2 ^ 32
low_place plan lost place small can =
    let below = ltb-true place (plan.grid.rows * plan.grid.cols) (and_parts (nat_lt place (plan.grid.rows * plan.grid.cols)) _ can).0 in
    omega (arith, below, small)

lost_line : (n : ℕ) (setup : Setup) (place : ℕ) → place < 2 ^ 32 → can_lose setup.plan setup.lost place ≡ true → after_line n setup (codes "replace" ++ spaced (decimal place ∷ [])) ≡ Ok (with_loss setup place)
lost_line n setup place low can =
    let plain : are_plain (decimal place ∷ []) ≡ true = rw (decimal_plain place low) refl in
    let line : List ℕ = codes "replace" ++ spaced (decimal place ∷ []) in
    ap (λ ws. after_told n setup line (loss_word ws)) (words_back (codes "replace") (decimal place ∷ []) refl plain)
    ∙ ap (after_loses n setup) (numbers_read_back place low)
    ∙ ap (λ b. cond b (Ok (with_loss setup place)) (Err (n, NotLost))) can

-- what is told behind lines of these losses
record TellsLosses (n : ℕ) (setup : Setup) (lost : List ℕ) (rest : List ℕ) : Type 0 where
  number : ℕ
  told : after_lines n setup (lines_of (flat_map loss_line lost ++ rest)) ≡ after_lines number (record setup { lost = setup.lost ++ lost }) (lines_of rest)

losses_back : (n : ℕ) (setup : Setup) (lost : List ℕ) (rest : List ℕ) → setup.plan.grid.rows * setup.plan.grid.cols ≤ 64 → CanLose setup.plan setup.lost lost → TellsLosses n setup lost rest
losses_back n setup [] rest small can = record { number = n; told = ap (λ ls. after_lines n (record setup { lost = ls }) (lines_of rest)) (sym (append-nil setup.lost)) }
losses_back n setup (place ∷ lost) rest small can =
    let low : place < 2 ^ 32 = low_place setup.plan setup.lost place small can.0 in
    let plain : are_plain (decimal place ∷ []) ≡ true = rw (decimal_plain place low) refl in
    let more : List ℕ = flat_map loss_line lost in
    let later = losses_back (n + 1) (with_loss setup place) lost rest small can.1 in
    record {
      number = later.number;
      told = ap (λ text. after_lines n setup (lines_of text)) (append_assoc (loss_line place) more rest)
          ∙ ap (after_lines n setup) (line_back (codes "replace") (decimal place ∷ []) (more ++ rest) refl plain)
          ∙ ap (λ r. then_told r (λ x. after_lines (n + 1) x (lines_of (more ++ rest)))) (lost_line n setup place low can.0)
          ∙ later.told
          ∙ ap (λ ls. after_lines later.number (record setup { lost = ls }) (lines_of rest)) (append_assoc setup.lost (place ∷ []) lost);
    }

-- ---- tenants that are gone

plain_name : (plan : CheckedPlan) (gone : List Word) (name : Word) → can_go plan gone name ≡ true → are_plain (name ∷ []) ≡ true
plain_name plan gone name can =
    let is : is_name name ≡ true = (and_parts (is_name name) _ can).0 in
    rw (name_plain name is) refl

goes_line : (n : ℕ) (setup : Setup) (name : Word) → can_go setup.plan setup.gone name ≡ true → after_line n setup (codes "gone" ++ spaced (name ∷ [])) ≡ Ok (with_gone setup name)
goes_line n setup name can =
    let line : List ℕ = codes "gone" ++ spaced (name ∷ []) in
    let words = words_back (codes "gone") (name ∷ []) refl (plain_name setup.plan setup.gone name can) in
    ap (λ ws. after_told n setup line (loss_word ws)) words
    ∙ ap (λ ws. after_gone_line n setup line (gone_word ws)) words
    ∙ ap (λ b. cond b (Ok (with_gone setup name)) (Err (n, NotGone))) can

gone_back : (n : ℕ) (setup : Setup) (gone : List Word) → CanGo setup.plan setup.gone gone → after_lines n setup (lines_of (flat_map gone_line gone)) ≡ Ok (record setup { gone = setup.gone ++ gone })
gone_back n setup [] can = ap (λ ns. Ok (record setup { gone = ns })) (sym (append-nil setup.gone))
gone_back n setup (name ∷ gone) can =
    let more : List ℕ = flat_map gone_line gone in
    ap (after_lines n setup) (line_back (codes "gone") (name ∷ []) more refl (plain_name setup.plan setup.gone name can.0))
    ∙ ap (λ r. then_told r (λ x. after_lines (n + 1) x (lines_of more))) (goes_line n setup name can.0)
    ∙ gone_back (n + 1) (with_gone setup name) gone can.1
    ∙ ap (λ ns. Ok (record setup { gone = ns })) (append_assoc setup.gone (name ∷ []) gone)

-- ---- the whole text

pub text_tells : (plan : CheckedPlan) (openings : List Opening) (rooms : List ChunkRoom) (lost : List ℕ) (gone : List Word) (events : List Event) → events ≡ map opening_event openings → CanOpen (accounts_of plan) openings → CanHave plan [] rooms → CanLose plan [] lost → CanGo plan [] gone →
    IsScriptOf (script_text plan events) plan events →
    setup_of (setup_text (record { plan = plan; openings = openings; rooms = rooms; lost = lost; gone = gone })) ≡ Ok (record { plan = plan; openings = openings; rooms = rooms; lost = lost; gone = gone })
text_tells plan openings rooms lost gone events is can have may go s =
    let sound : IsPlan plan = plan_is (lines_of (script_text plan events)) s.lines plan s.read in
    let script : List ℕ = flat_map (event_line plan) events in
    let goers : List ℕ = flat_map gone_line gone in
    let losses : List ℕ = flat_map loss_line lost ++ goers in
    let behind : List ℕ = flat_map (room_line plan) rooms ++ losses in
    let both : (plan, s.lines) ≡ (plan, lines_of script) = ok_same (sym s.read ∙ plan_back plan sound script) in
    let lines : s.lines ≡ lines_of script = ap (λ (x : CheckedPlan × List (List ℕ)). x.1) both in
    let told : map (event_of plan) (lines_of script) ≡ map opening_event openings = ap (map (event_of plan)) (sym lines) ∙ s.tell ∙ is in
    let back = openings_back (first_behind plan) (plan_alone plan) openings (lines_of script) (lines_of behind) told can in
    let had = rooms_back back.number (record { plan = plan; openings = openings; rooms = []; lost = []; gone = [] }) rooms losses sound have in
    let bereft = losses_back had.number (record { plan = plan; openings = openings; rooms = rooms; lost = []; gone = [] }) lost goers (small_grid plan sound) may in
    ap (λ es. setup_of (script_text plan es ++ behind)) (sym is)
    ∙ ap setup_of (append_assoc (plan_text plan) script behind)
    ∙ ap behind_plan (plan_back plan sound (script ++ behind))
    ∙ ap (after_lines (first_behind plan) (plan_alone plan)) (events_whole plan events behind)
    ∙ back.told
    ∙ had.told
    ∙ bereft.told
    ∙ gone_back bereft.number (record { plan = plan; openings = openings; rooms = rooms; lost = lost; gone = [] }) gone go

in_from : (plan : CheckedPlan) (accounts : List Account) (openings : List Opening) → CanOpen accounts openings → length accounts ≡ length plan.rows → (k : ℕ) (d : Event) → k < length (map opening_event openings) → IsIn plan (get_or (map opening_event openings) k d)
in_from plan accounts [] can same k d less = absurd (omega arith)
in_from plan accounts (o ∷ openings) can same zero d less = subst (λ n. o.tenant < n) same can.0
in_from plan accounts (o ∷ openings) can same (suc k) d less = in_from plan (after_opening accounts o) openings can.2 (after_openings-length accounts (o ∷ []) ∙ same) k d (omega arith)

pub all_in : (plan : CheckedPlan) (openings : List Opening) (events : List Event) → events ≡ map opening_event openings → CanOpen (accounts_of plan) openings → All (IsIn plan) events
all_in plan openings events is can = subst (All (IsIn plan)) (sym is) (in_from plan (accounts_of plan) openings can (accounts-length plan))

pub on_ok : {T E P : Type 0} (result : Result T E) → P → OnOk result P
on_ok (Ok done) holds = holds
on_ok (Err fault) holds = tt

-- ---- the text in a journal

number_side : (n : ℕ) → is_side n ≡ true → n < 2 ^ 32
number_side n is =
    let few = leb-true n MOST_SIDE (and_parts _ _ is).1 in
    omega (arith, few)

pub node_tells : (node : ℕ) (setup : Setup) → node < 2 ^ 16 → is_side setup.plan.grid.rows ≡ true → is_side setup.plan.grid.cols ≡ true → setup_of (setup_text setup) ≡ Ok setup → setup_of_node_text (node_text node setup) ≡ Ok setup
node_tells node setup low rows cols back =
    let words : List Word = decimal node ∷ codes "of" ∷ decimal setup.plan.grid.rows ∷ codes "by" ∷ decimal setup.plan.grid.cols ∷ [] in
    let plain : are_plain words ≡ true =
    rw (decimal_plain node (omega arith), decimal_plain setup.plan.grid.rows (number_side setup.plan.grid.rows rows), decimal_plain setup.plan.grid.cols (number_side setup.plan.grid.cols cols)) refl in
    let line : List ℕ = codes "node" ++ spaced words in
    let text : node_text node setup ≡ line ++ 10 ∷ setup_text setup =
    ap (λ x. x ++ setup_text setup) (sym (append_assoc (codes "node") (spaced words) (10 ∷ []))) ∙ append_assoc line (10 ∷ []) (setup_text setup) in
    ap setup_of_node_text text ∙ ap setup_of (behind_line line (setup_text setup) (line_inner (codes "node") words refl plain)) ∙ back
