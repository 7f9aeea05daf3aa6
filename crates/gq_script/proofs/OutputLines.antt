-- The answers to an input are the lines of its output, since no byte of them is a newline.
use Rattle.std.proofs.Common.{◌≡◌, ◌∙◌, ℕ, zero, suc, ◌+◌, ◌/◌, ◌%◌, List, [], ◌∷◌, ◌++◌, Option, Some, None, Ok, Bool, true, false, cond, map, slice_index, refl, sym, ap, subst, arith, append_assoc}
use Rattle.std.specs.Prelude.{◌==◌, codes, decimal, nat_lt, not, slice_get, unwrap_or}
use Rattle.std.specs.Fmt.{digit_glyph, digits, digits_onto}
use Rattle.std.specs.List.{list_all}
use Rattle.std.specs.Str.{bytes_eq}
use Rattle.std.proofs.lemmas.Bool.{and_parts, ne_eqb}
use Rattle.std.proofs.lemmas.List.Folds.{list_all-append}
use Rattle.hex.specs.Hex.{encode_with, lower_digits}
use Rattle.gq_grid.specs.Grid.{Grid}
use Rattle.gq_desk.specs.CheckedPlan.{CheckedPlan, nobody}
use Rattle.gq_desk.specs.Names.{is_letter, is_name}
use Rattle.gq_desk.specs.declared.plans.TenantRow.{TenantRow}
use Rattle.gq_desk.specs.declared.volumes.VolumeRow.{VolumeRow}
use Rattle.gq_phase.specs.declared.Outcome.{Outcome}
use Rattle.gq_phase.specs.declared.Outcome.TheVariants.{Wrote, Gave, Listed}
use Rattle.gq_phase.specs.declared.Row.{Row}
use Rattle.gq_tag.specs.declared.Tag.{Tag}
use Rattle.gq_model.specs.declared.events.Event.{Event}
use Rattle.gq_model.specs.declared.events.Event.TheVariants.{Tenant, Server, Stray}
use Rattle.gq_model.specs.declared.events.Refusal.{Refusal}
use Rattle.gq_model.specs.declared.events.Refusal.TheVariants.{Spent, Bad, NoSession, Busy, Idle, NoVolume, NoFile, TooLong, NoQuorum, NoMessage, Size, Volumes, Share}
use Rattle.gq_model.specs.declared.events.ServerRefusal.{ServerRefusal}
use Rattle.gq_model.specs.declared.events.ServerRefusal.TheVariants.{Bad as ServerBad, NoServer, Lost as IsGone, Same, Last, NoPeer}
use Rattle.gq_model.specs.Told.{Told, Chosen, Opened, VolumesAre, Began, Replied, IsDown, Stale, Noted, Round, Done, Lost, Resent, Abandoned, Refused, ServerOk, Repaired, ServerRefused, StrayBad}
use Rattle.gq_laws.specs.Tenants.{answers}
use Rattle.gq_lines.specs.Words.{Word, words_of}
use Rattle.gq_lines.specs.Lines.{lines_of, joined}
use Rattle.gq_text.specs.Input.{event_of}
use Rattle.gq_text.specs.PlanText.{row_then, row_told, rows_from, plan_of}
use Rattle.gq_lines.specs.Written.{content_word, spaced}
use Rattle.gq_text.specs.AnswerText.{answer_line, file_word, outcome_words, range_words, refusal_words, round_words, server_refusal_word, tag_words, told_words, volume_word, who}
use Rattle.gq_text.proofs.PlanNames.{ok_same, row_and_rest, row_named, rows_of_plan}
use Rattle.gq_script.specs.Out.{lines_by, out, output_of}
use Rattle.gq_script.specs.Alone.{answers_to, told_text}

-- no byte is a newline
abbrev pub is_line : List ℕ → Bool
is_line text = list_all (λ c. not (c == 10)) text

abbrev pub are_lines : List Word → Bool
are_lines words = list_all is_line words

is_other : (b : Bool) → not b ≡ true → b ≡ false
is_other true is = cc
is_other false is = refl

byte-cons : (c : ℕ) (text : List ℕ) → (c ≡ 10 → ⊥) → is_line text ≡ true → is_line (c ∷ text) ≡ true
byte-cons c text other line = rw (ne_eqb c 10 other) line

-- ---- numbers and contents

glyph_other : (d : ℕ) → digit_glyph false d ≡ 10 → ⊥
glyph_other d = by (nat_lt d 10)
  where
    by : (b : Bool) → cond b (48 + d) (87 + d) ≡ 10 → ⊥
    by true is = omega arith
    by false is = omega arith

onto_line : (k n : ℕ) (acc : List ℕ) → is_line acc ≡ true → is_line (digits_onto k 10 false n acc) ≡ true
onto_line zero n acc line = line
onto_line (suc k) n acc line =
    let more : List ℕ = digit_glyph false (n % 10) ∷ acc in
    by (n / 10 == 0) more (byte-cons (digit_glyph false (n % 10)) acc (glyph_other (n % 10)) line) (λ grown. onto_line k (n / 10) more grown)
  where
    by : (b : Bool) (more : List ℕ) → is_line more ≡ true → (is_line more ≡ true → is_line (digits_onto k 10 false (n / 10) more) ≡ true) → is_line (cond b more (digits_onto k 10 false (n / 10) more)) ≡ true
    by true more grown later = grown
    by false more grown later = later grown

decimal_line : (n : ℕ) → is_line (decimal n) ≡ true
unfolding digits
decimal_line n = onto_line 64 n [] refl

-- a place of a list without newlines has none, nor has one behind it
place_other : (text : List ℕ) (i : ℕ) → is_line text ≡ true → (slice_index text i == 10) ≡ false
place_other [] i line = refl
place_other (c ∷ text) zero line = is_other (c == 10) (and_parts (not (c == 10)) (is_line text) line).0
place_other (c ∷ text) (suc i) line = place_other text i (and_parts (not (c == 10)) (is_line text) line).1

digits_line : (bytes : List ℕ) → is_line (encode_with lower_digits bytes) ≡ true
unfolding encode_with
digits_line [] = refl
digits_line (b ∷ bytes) = rw (place_other lower_digits (b / 16) refl, place_other lower_digits (b % 16) refl) (digits_line bytes)

content_line : (bytes : List ℕ) → is_line (content_word bytes) ≡ true
content_line [] = refl
content_line (b ∷ bytes) = digits_line (b ∷ bytes)

-- ---- the words of an answer

line-append : (xs ys : List ℕ) → is_line xs ≡ true → is_line ys ≡ true → is_line (xs ++ ys) ≡ true
line-append xs ys left right = rw (list_all-append (λ c. not (c == 10)) xs ys, left) right

numbers_lines : (ns : List ℕ) → are_lines (map decimal ns) ≡ true
numbers_lines [] = refl
numbers_lines (n ∷ ns) = rw (decimal_line n) (numbers_lines ns)

volume_line : (volume : VolumeRow) → is_line (volume_word volume) ≡ true
volume_line volume = line-append (decimal volume.files ++ codes "x") (decimal volume.blocks) (line-append (decimal volume.files) (codes "x") (decimal_line volume.files) refl) (decimal_line volume.blocks)

volumes_lines : (volumes : List VolumeRow) → are_lines (map volume_word volumes) ≡ true
volumes_lines [] = refl
volumes_lines (volume ∷ volumes) = rw (volume_line volume) (volumes_lines volumes)

file_line : (file : Row) → is_line (file_word file) ≡ true
file_line file =
    let length = decimal file.length in
    let number = decimal file.tag.number in
    line-append (length ++ codes ":" ++ number ++ codes ".") (decimal file.tag.session)
    (line-append (length ++ codes ":" ++ number) (codes ".") (line-append (length ++ codes ":") number (line-append length (codes ":") (decimal_line file.length) refl) (decimal_line file.tag.number)) refl)
    (decimal_line file.tag.session)

files_lines : (files : List Row) → are_lines (map file_word files) ≡ true
files_lines [] = refl
files_lines (file ∷ files) = rw (file_line file) (files_lines files)

range_lines : (first count : ℕ) → are_lines (range_words first count) ≡ true
range_lines first zero = refl
range_lines first (suc more) = rw (decimal_line first, decimal_line (first + more)) refl

tag_lines : (tag : Tag) (words : List Word) → are_lines words ≡ true → are_lines (tag_words tag ++ words) ≡ true
tag_lines tag words lines = rw (decimal_line tag.number, decimal_line tag.session) lines

round_lines : (tag : Option Tag) (words : List Word) → are_lines words ≡ true → are_lines (round_words tag ++ words) ≡ true
round_lines None words lines = lines
round_lines (Some tag) words lines = tag_lines tag words lines

outcome_lines : (outcome : Outcome) → are_lines (outcome_words outcome) ≡ true
outcome_lines (Wrote session op tag) = rw (decimal_line session, decimal_line op, decimal_line tag.number, decimal_line tag.session) refl
outcome_lines (Gave session op copy) = rw (decimal_line session, decimal_line op) (tag_lines copy.tag (content_word copy.bytes ∷ []) (rw (content_line copy.bytes) refl))
outcome_lines (Listed session op files) = rw (decimal_line session, decimal_line op) (files_lines files)

refusal_lines : (refusal : Refusal) → are_lines (refusal_words refusal) ≡ true
refusal_lines Spent = refl
refusal_lines Bad = refl
refusal_lines NoSession = refl
refusal_lines Busy = refl
refusal_lines Idle = refl
refusal_lines NoVolume = refl
refusal_lines NoFile = refl
refusal_lines TooLong = refl
refusal_lines NoQuorum = refl
refusal_lines NoMessage = refl
refusal_lines Size = refl
refusal_lines Volumes = refl
refusal_lines (Share free) = rw (decimal_line free) refl

server_refusal_line : (refusal : ServerRefusal) → is_line (server_refusal_word refusal) ≡ true
server_refusal_line ServerBad = refl
server_refusal_line NoServer = refl
server_refusal_line IsGone = refl
server_refusal_line Same = refl
server_refusal_line Last = refl
server_refusal_line NoPeer = refl

told_lines : (grid : Grid) (told : Told) → are_lines (told_words grid told) ≡ true
unfolding told_words
told_lines grid (Chosen choice servers) = rw (decimal_line choice.row, decimal_line choice.col) (numbers_lines _)
told_lines grid (Opened volume) = rw (decimal_line volume) refl
told_lines grid (VolumesAre free volumes) = rw (decimal_line free) (volumes_lines volumes)
told_lines grid (Began op first count) = rw (decimal_line op) (range_lines first count)
told_lines grid (Replied number) = rw (decimal_line number) refl
told_lines grid IsDown = refl
told_lines grid Stale = refl
told_lines grid Noted = refl
told_lines grid (Round round tag first count) = rw (decimal_line round) (round_lines tag (codes "sent" ∷ range_words first count) (range_lines first count))
told_lines grid (Done outcome) = outcome_lines outcome
told_lines grid Lost = refl
told_lines grid (Resent first count) = range_lines first count
told_lines grid Abandoned = refl
told_lines grid (Refused refusal) = refusal_lines refusal
told_lines grid ServerOk = refl
told_lines grid (Repaired peer) = refl
told_lines grid (ServerRefused refusal) = rw (server_refusal_line refusal) refl
told_lines grid StrayBad = refl

-- ---- names

letters_line : (word : Word) → list_all is_letter word ≡ true → is_line word ≡ true
letters_line [] letters = refl
letters_line (c ∷ word) letters =
    let parts = and_parts (is_letter c) (list_all is_letter word) letters in
    byte-cons c word (λ is. absurd (letter_other c is parts.0)) (letters_line word parts.1)
  where
    letter_other : (c : ℕ) → c ≡ 10 → is_letter c ≡ true → ⊥
    letter_other c is letter = let P : ℕ → Type 0 = λ x. is_letter x ≡ true in let no : false ≡ true = subst P is letter in cc

name_line : (name : Word) → is_name name ≡ true → is_line name ≡ true
name_line name named = letters_line name (and_parts _ _ (and_parts _ _ named).1).0

abbrev pub are_named : List TenantRow → Bool
are_named rows = list_all (λ (row : TenantRow). is_name row.name) rows

-- the rows of an accepted plan have names
rows_are_named : (room : Bool) (n : ℕ) (lines rest : List (List ℕ)) (rows : List TenantRow) → rows_from room n lines ≡ Ok (rows, rest) → are_named rows ≡ true
rows_are_named room n [] rest rows is = cc
rows_are_named room n (line ∷ lines) rest rows is = by (bytes_eq line (codes "go")) is (λ more. rows_are_named room (n + 1) lines rest more)
  where
    by : (b : Bool) → cond b (Ok ([], lines)) (row_then n (row_told room (words_of line)) (rows_from room (n + 1) lines)) ≡ Ok (rows, rest)
        → ((more : List TenantRow) → rows_from room (n + 1) lines ≡ Ok (more, rest) → are_named more ≡ true) → are_named rows ≡ true
    by true here later =
        let same : [] ≡ rows = ap (λ x. x.0) (ok_same here) in
        let P : List TenantRow → Type 0 = λ rs. are_named rs ≡ true in
        subst P same refl
    by false there later =
        let r = row_and_rest n (row_told room (words_of line)) (rows_from room (n + 1) lines) rows rest there in
        rw (r.4, row_named room (words_of line) r.0 r.2) (later r.1 r.3)

row_name_line : (rows : List TenantRow) (t : ℕ) → are_named rows ≡ true → is_line (unwrap_or (slice_get rows t) nobody).name ≡ true
row_name_line [] t named = refl
row_name_line (row ∷ rows) zero named = name_line row.name (and_parts (is_name row.name) (are_named rows) named).0
row_name_line (row ∷ rows) (suc t) named = row_name_line rows t (and_parts (is_name row.name) (are_named rows) named).1

who_line : (plan : CheckedPlan) (event : Event) → are_named plan.rows ≡ true → is_line (who plan event) ≡ true
who_line plan (Tenant t line) named = row_name_line plan.rows t named
who_line plan (Server line) named = refl
who_line plan Stray named = refl

-- ---- lines

spaced_line : (words : List Word) → are_lines words ≡ true → is_line (spaced words) ≡ true
spaced_line [] lines = refl
spaced_line (word ∷ words) lines =
    let parts = and_parts (is_line word) (are_lines words) lines in
    line-append (32 ∷ word) (spaced words) parts.0 (spaced_line words parts.1)

-- a line, and the lines behind it
line_then : (line rest : List ℕ) → is_line line ≡ true → lines_of (line ++ 10 ∷ rest) ≡ line ∷ lines_of rest
line_then [] rest is = refl
line_then (c ∷ line) rest is =
    let parts = and_parts (not (c == 10)) (is_line line) is in
    rw (is_other (c == 10) parts.0, line_then line rest parts.1) refl

-- the answers to events of a plan are the lines of their text
events_back : (plan : CheckedPlan) → are_named plan.rows ≡ true → (events : List Event) (tolds : List Told) → lines_of (joined (lines_by (answer_line plan) events tolds)) ≡ lines_by (λ event. told_text plan.grid (who plan event)) events tolds
events_back plan named [] tolds = refl
events_back plan named (event ∷ events) [] = refl
events_back plan named (event ∷ events) (told ∷ tolds) =
    let name = who plan event in
    let words = told_words plan.grid told in
    let rest = joined (lines_by (answer_line plan) events tolds) in
    let text : (name ++ (spaced words ++ 10 ∷ [])) ++ rest ≡ (name ++ spaced words) ++ 10 ∷ rest =
    append_assoc name (spaced words ++ 10 ∷ []) rest ∙ ap (λ x. name ++ x) (append_assoc (spaced words) (10 ∷ []) rest) ∙ sym (append_assoc name (spaced words) (10 ∷ rest)) in
    let line = line-append name (spaced words) (who_line plan event named) (spaced_line words (told_lines plan.grid told)) in
    ap lines_of text ∙ (line_then (name ++ spaced words) rest line ∙ ap (λ lines. (name ++ spaced words) ∷ lines) (events_back plan named events tolds))

pub answers_back : (input : List ℕ) (lines : List (List ℕ)) (plan : CheckedPlan) → plan_of (lines_of input) ≡ Ok (plan, lines) → lines_of (out input) ≡ answers_to plan lines
answers_back input lines plan read =
    let rows = rows_of_plan (lines_of input) lines plan read in
    let events = map (event_of plan) lines in
    ap (λ r. lines_of (output_of r)) read ∙ events_back plan (rows_are_named rows.room 3 rows.lines rows.rest plan.rows rows.read) events (answers plan events)
