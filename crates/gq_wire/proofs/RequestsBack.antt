-- The line of a request is read as that request.
use Rattle.std.proofs.Common.{◌≡◌, ℕ, ◌+◌, ◌*◌, ◌^◌, ◌<◌, ◌≤◌, List, [], ◌∷◌, length, Some, None, true, false, refl, ap, ◌∙◌, arith, length-append}
use Rattle.std.specs.Prelude.{codes, decimal, nat_le, nat_lt}
use Rattle.std.specs.List.{list_all}
use Rattle.std.proofs.lemmas.Bool.{and_parts, eq-eqb, ne_eqb, le-leb, lt-leb, leb-true, le-ltb}
use Rattle.gq_tag.specs.declared.TheConstants.{BLOCK_BYTES}
use Rattle.gq_desk.specs.Names.{is_letter, is_name}
use Rattle.gq_desk.specs.CheckedPlan.{CheckedPlan, row_at}
use Rattle.gq_model.specs.declared.events.Line.{Line}
use Rattle.gq_model.specs.declared.events.Line.TheVariants.{Write, Read, List as ListFiles, Abandon}
use Rattle.gq_lines.specs.Words.{Word, number_of, number_up_to}
use Rattle.gq_lines.specs.Written.{bytes_word, content_word, spaced}
use Rattle.gq_text.specs.Canonical.{IsPlan, IsNumber}
use Rattle.gq_lines.proofs.Numbers.{numbers_read_back, long_numbers_read_back}
use Rattle.gq_lines.proofs.Plain.{are_plain, decimal_plain, long_plain, bytes_plain, content_plain}
use Rattle.gq_lines.proofs.LinesBack.{words_back}
use Rattle.gq_text.proofs.EventsBack.{line_of-bytes, line_of-words}
use Rattle.gq_wire.specs.declared.incoming.Incoming.TheVariants.{Request, Plan, Look}
use Rattle.gq_wire.specs.Questions.{mark_and_volume, look_of, look_words}
use Rattle.gq_wire.specs.Requests.{request_of, request_words}
use Rattle.gq_wire.specs.Incoming.{is_only, incoming_of_words, longest_line}
use Rattle.gq_wire.specs.Laws.{FitsRequest, request_text, write_text, plan_text, look_text, RequestsReadBack, WritesReadBack, PlansReadBack, LooksReadBack}
use Rattle.gq_wire.proofs.ValuesBack.{name_at, name_is_plain, place_back}
use Rattle.gq_wire.proofs.Lengths.{short_number, long_number, short_name, bytes_length-le, content_length-le, one_more, number_more, fits_longest}

-- ---- a name is no number

first_letter : (c : ℕ) (word : Word) → list_all is_letter (c ∷ word) ≡ true → 97 ≤ c
first_letter c word letters = leb-true 97 c (and_parts (nat_le 97 c) (nat_le c 122) (and_parts (is_letter c) (list_all is_letter word) letters).0).0

no_digits : (word : Word) → list_all is_letter word ≡ true → 1 ≤ length word → number_of word ≡ None
unfolding number_up_to
no_digits [] letters some = absurd (omega arith)
no_digits (c ∷ []) letters some =
    let big = first_letter c [] letters in
    let low : nat_le 48 c ≡ true = le-leb 48 c (omega arith) in
    let high : nat_le c 57 ≡ false = lt-leb c 57 (omega arith) in
    rw (low, high) refl
no_digits (c ∷ d ∷ word) letters some =
    let big = first_letter c (d ∷ word) letters in
    let low : nat_le 48 c ≡ true = le-leb 48 c (omega arith) in
    let high : nat_le c 57 ≡ false = lt-leb c 57 (omega arith) in
    rw (ne_eqb c 48 (omega arith), low, high) refl

pub name_is_no_number : (name : Word) → is_name name ≡ true → number_of name ≡ None
name_is_no_number name is =
    let parts = and_parts _ _ is in
    no_digits name (and_parts _ _ parts.1).0 (leb-true 1 (length name) (and_parts _ _ parts.0).0)

-- ---- the words

words_plain : (blocks op : ℕ) (line : Line) → FitsRequest blocks op line → are_plain (request_words op line) ≡ true
words_plain blocks op (Write k v f bytes) fits = rw (decimal_plain k fits.1, decimal_plain op fits.0, decimal_plain v fits.2, decimal_plain f fits.3, content_plain bytes fits.4.0) refl
words_plain blocks op (Read k v f) fits = rw (decimal_plain k fits.1, decimal_plain op fits.0, decimal_plain v fits.2, decimal_plain f fits.3) refl
words_plain blocks op (ListFiles k v) fits = rw (decimal_plain k fits.1, decimal_plain op fits.0, decimal_plain v fits.2) refl
words_plain blocks op (Abandon k) fits = rw (decimal_plain k fits.1, decimal_plain op fits.0) refl
words_plain blocks op line fits = absurd fits

words_back_as : (blocks op : ℕ) (line : Line) → FitsRequest blocks op line → request_of (request_words op line) ≡ Some (op, line)
unfolding request_of
words_back_as blocks op (Write k v f bytes) fits = rw (numbers_read_back op fits.0, line_of-words (Write k v f bytes) (fits.1, fits.2, fits.3, fits.4.0)) refl
words_back_as blocks op (Read k v f) fits = rw (numbers_read_back op fits.0, line_of-words (Read k v f) (fits.1, fits.2, fits.3)) refl
words_back_as blocks op (ListFiles k v) fits = rw (numbers_read_back op fits.0, line_of-words (ListFiles k v) (fits.1, fits.2)) refl
words_back_as blocks op (Abandon k) fits = rw (numbers_read_back op fits.0, line_of-words (Abandon k) fits.1) refl
words_back_as blocks op line fits = absurd fits

no_plan : (blocks op : ℕ) (line : Line) → FitsRequest blocks op line → is_only (codes "plan") (request_words op line) ≡ false
no_plan blocks op (Write k v f bytes) fits = refl
no_plan blocks op (Read k v f) fits = refl
no_plan blocks op (ListFiles k v) fits = refl
no_plan blocks op (Abandon k) fits = refl
no_plan blocks op line fits = absurd fits

no_look : (blocks op : ℕ) (line : Line) → FitsRequest blocks op line → look_of (request_words op line) ≡ None
no_look blocks op (Write k v f bytes) fits = refl
no_look blocks op (Read k v f) fits = refl
no_look blocks op (ListFiles k v) fits = refl
no_look blocks op (Abandon k) fits = refl
no_look blocks op line fits = absurd fits

words_short : (blocks op : ℕ) (line : Line) → FitsRequest blocks op line → length (spaced (request_words op line)) ≤ 52 + 2 * (BLOCK_BYTES * blocks)
words_short blocks op (Write k v f bytes) fits =
    let n : ℕ = BLOCK_BYTES * blocks in
    let content = one_more (content_word bytes) [] (2 * n + 1) 0 (content_length-le n bytes fits.4.1) (omega arith) in
    let file = number_more f (content_word bytes ∷ []) (2 + 2 * n) fits.3 (omega (arith, content)) in
    let volume = number_more v (decimal f ∷ content_word bytes ∷ []) (13 + 2 * n) fits.2 (omega (arith, file)) in
    let number = number_more op (decimal v ∷ decimal f ∷ content_word bytes ∷ []) (24 + 2 * n) fits.0 (omega (arith, volume)) in
    let session = number_more k (decimal op ∷ decimal v ∷ decimal f ∷ content_word bytes ∷ []) (35 + 2 * n) fits.1 (omega (arith, number)) in
    omega (arith, one_more (codes "write") (decimal k ∷ decimal op ∷ decimal v ∷ decimal f ∷ content_word bytes ∷ []) 5 (46 + 2 * n) (omega arith) (omega (arith, session)))
words_short blocks op (Read k v f) fits =
    omega (
      arith,
      one_more (codes "read") (decimal k ∷ decimal op ∷ decimal v ∷ decimal f ∷ []) 4 44 (omega arith)
          (number_more k (decimal op ∷ decimal v ∷ decimal f ∷ []) 33 fits.1
          (number_more op (decimal v ∷ decimal f ∷ []) 22 fits.0
          (number_more v (decimal f ∷ []) 11 fits.2
          (number_more f [] 0 fits.3 (omega arith))))),
    )
words_short blocks op (ListFiles k v) fits =
    omega (
      arith,
      one_more (codes "list") (decimal k ∷ decimal op ∷ decimal v ∷ []) 4 33 (omega arith)
          (number_more k (decimal op ∷ decimal v ∷ []) 22 fits.1
          (number_more op (decimal v ∷ []) 11 fits.0
          (number_more v [] 0 fits.2 (omega arith)))),
    )
words_short blocks op (Abandon k) fits =
    omega (
      arith,
      one_more (codes "abandon") (decimal k ∷ decimal op ∷ []) 7 22 (omega arith)
          (number_more k (decimal op ∷ []) 11 fits.1
          (number_more op [] 0 fits.0 (omega arith))),
    )
words_short blocks op line fits = absurd fits

-- ---- the line

text_short : (plan : CheckedPlan) (to t op : ℕ) (line : Line) → IsPlan plan → IsNumber to → t < length plan.rows → FitsRequest (row_at plan t).most_blocks op line → length (request_text plan to t op line) ≤ longest_line plan
text_short plan to t op line is to_fits within fits =
    let n : ℕ = BLOCK_BYTES * (row_at plan t).most_blocks in
    let name = one_more (row_at plan t).name (request_words op line) 16 (52 + 2 * n) (short_name (row_at plan t).name (name_at plan t is within)) (words_short (row_at plan t).most_blocks op line fits) in
    fits_longest plan t (length (request_text plan to t op line))
    (omega (arith, length-append (decimal to) (spaced ((row_at plan t).name ∷ request_words op line)), short_number to to_fits, name))

line_back : (plan : CheckedPlan) (to t op : ℕ) (line : Line) → IsPlan plan → IsNumber to → t < length plan.rows → FitsRequest (row_at plan t).most_blocks op line → incoming_of_words plan to (decimal to ∷ (row_at plan t).name ∷ request_words op line) ≡ Request t op line
unfolding incoming_of_words
line_back plan to t op line is to_fits within fits =
    rw (
      numbers_read_back to to_fits,
      eq-eqb to to refl,
      name_is_no_number (row_at plan t).name (name_at plan t is within),
      place_back plan t is within,
      no_plan (row_at plan t).most_blocks op line fits,
      no_look (row_at plan t).most_blocks op line fits,
      words_back_as (row_at plan t).most_blocks op line fits,
    ) refl

pub requests_read_back : RequestsReadBack
requests_read_back plan to t op line is to_fits within fits =
    let short : nat_lt (longest_line plan) (length (request_text plan to t op line)) ≡ false = le-ltb (longest_line plan) (length (request_text plan to t op line)) (text_short plan to t op line is to_fits within fits) in
    let others : are_plain ((row_at plan t).name ∷ request_words op line) ≡ true = rw (name_is_plain plan t is within) (words_plain (row_at plan t).most_blocks op line fits) in
    rw short (ap (incoming_of_words plan to) (words_back (decimal to) ((row_at plan t).name ∷ request_words op line) (decimal_plain to to_fits) others) ∙ line_back plan to t op line is to_fits within fits)

-- ---- a write whose content is written as its bytes

-- its words after the tenant's name
write_words : (op k v f : ℕ) (bytes : List ℕ) → List Word
write_words op k v f bytes = codes "write" ∷ decimal k ∷ decimal op ∷ decimal v ∷ decimal f ∷ bytes_word bytes ∷ []

write_plain : (blocks op k v f : ℕ) (bytes : List ℕ) → FitsRequest blocks op (Write k v f bytes) → are_plain (write_words op k v f bytes) ≡ true
unfolding write_words
write_plain blocks op k v f bytes fits = rw (decimal_plain k fits.1, decimal_plain op fits.0, decimal_plain v fits.2, decimal_plain f fits.3, bytes_plain bytes) refl

write_back : (blocks op k v f : ℕ) (bytes : List ℕ) → FitsRequest blocks op (Write k v f bytes) → request_of (write_words op k v f bytes) ≡ Some (op, Write k v f bytes)
unfolding write_words request_of
write_back blocks op k v f bytes fits = rw (numbers_read_back op fits.0, line_of-bytes k v f bytes fits.1 fits.2 fits.3) refl

write_short : (blocks op k v f : ℕ) (bytes : List ℕ) → FitsRequest blocks op (Write k v f bytes) → length (spaced (write_words op k v f bytes)) ≤ 52 + 2 * (BLOCK_BYTES * blocks)
unfolding write_words
write_short blocks op k v f bytes fits =
    let n : ℕ = BLOCK_BYTES * blocks in
    let content = one_more (bytes_word bytes) [] (2 * n + 1) 0 (bytes_length-le n bytes fits.4.1) (omega arith) in
    let file = number_more f (bytes_word bytes ∷ []) (2 + 2 * n) fits.3 (omega (arith, content)) in
    let volume = number_more v (decimal f ∷ bytes_word bytes ∷ []) (13 + 2 * n) fits.2 (omega (arith, file)) in
    let number = number_more op (decimal v ∷ decimal f ∷ bytes_word bytes ∷ []) (24 + 2 * n) fits.0 (omega (arith, volume)) in
    let session = number_more k (decimal op ∷ decimal v ∷ decimal f ∷ bytes_word bytes ∷ []) (35 + 2 * n) fits.1 (omega (arith, number)) in
    omega (arith, one_more (codes "write") (decimal k ∷ decimal op ∷ decimal v ∷ decimal f ∷ bytes_word bytes ∷ []) 5 (46 + 2 * n) (omega arith) (omega (arith, session)))

write_text_short : (plan : CheckedPlan) (to t op k v f : ℕ) (bytes : List ℕ) → IsPlan plan → IsNumber to → t < length plan.rows → FitsRequest (row_at plan t).most_blocks op (Write k v f bytes) → length (write_text plan to t op k v f bytes) ≤ longest_line plan
unfolding write_words
write_text_short plan to t op k v f bytes is to_fits within fits =
    let n : ℕ = BLOCK_BYTES * (row_at plan t).most_blocks in
    let name = one_more (row_at plan t).name (write_words op k v f bytes) 16 (52 + 2 * n) (short_name (row_at plan t).name (name_at plan t is within)) (write_short (row_at plan t).most_blocks op k v f bytes fits) in
    fits_longest plan t (length (write_text plan to t op k v f bytes))
    (omega (arith, length-append (decimal to) (spaced ((row_at plan t).name ∷ write_words op k v f bytes)), short_number to to_fits, name))

no_question : (op k v f : ℕ) (bytes : List ℕ) → is_only (codes "plan") (write_words op k v f bytes) ≡ false
unfolding write_words
no_question op k v f bytes = refl

no_look_either : (op k v f : ℕ) (bytes : List ℕ) → look_of (write_words op k v f bytes) ≡ None
unfolding write_words
no_look_either op k v f bytes = refl

write_line_back : (plan : CheckedPlan) (to t op k v f : ℕ) (bytes : List ℕ) → IsPlan plan → IsNumber to → t < length plan.rows → FitsRequest (row_at plan t).most_blocks op (Write k v f bytes) →
    incoming_of_words plan to (decimal to ∷ (row_at plan t).name ∷ write_words op k v f bytes) ≡ Request t op (Write k v f bytes)
unfolding incoming_of_words
write_line_back plan to t op k v f bytes is to_fits within fits =
    rw (
      numbers_read_back to to_fits,
      eq-eqb to to refl,
      name_is_no_number (row_at plan t).name (name_at plan t is within),
      place_back plan t is within,
      no_question op k v f bytes,
      no_look_either op k v f bytes,
      write_back (row_at plan t).most_blocks op k v f bytes fits,
    ) refl

pub writes_read_back : WritesReadBack
unfolding write_words
writes_read_back plan to t op k v f bytes is to_fits within fits =
    let line : List ℕ = write_text plan to t op k v f bytes in
    let words : List Word = (row_at plan t).name ∷ write_words op k v f bytes in
    let short : nat_lt (longest_line plan) (length line) ≡ false = le-ltb (longest_line plan) (length line) (write_text_short plan to t op k v f bytes is to_fits within fits) in
    let others : are_plain words ≡ true = rw (name_is_plain plan t is within) (write_plain (row_at plan t).most_blocks op k v f bytes fits) in
    rw short (ap (incoming_of_words plan to) (words_back (decimal to) words (decimal_plain to to_fits) others) ∙ write_line_back plan to t op k v f bytes is to_fits within fits)

-- ---- the question what a tenant has

plan_short : (plan : CheckedPlan) (to t : ℕ) → IsPlan plan → IsNumber to → t < length plan.rows → length (plan_text plan to t) ≤ longest_line plan
plan_short plan to t is to_fits within =
    let name = one_more (row_at plan t).name (codes "plan" ∷ []) 16 5 (short_name (row_at plan t).name (name_at plan t is within)) (omega arith) in
    omega (arith, length-append (decimal to) (spaced ((row_at plan t).name ∷ codes "plan" ∷ [])), short_number to to_fits, name)

plan_back : (plan : CheckedPlan) (to t : ℕ) → IsPlan plan → IsNumber to → t < length plan.rows → incoming_of_words plan to (decimal to ∷ (row_at plan t).name ∷ codes "plan" ∷ []) ≡ Plan t
unfolding incoming_of_words
plan_back plan to t is to_fits within =
    rw (
      numbers_read_back to to_fits,
      eq-eqb to to refl,
      name_is_no_number (row_at plan t).name (name_at plan t is within),
      place_back plan t is within,
    ) refl

pub plans_read_back : PlansReadBack
plans_read_back plan to t is to_fits within =
    let short : nat_lt (longest_line plan) (length (plan_text plan to t)) ≡ false = le-ltb (longest_line plan) (length (plan_text plan to t)) (plan_short plan to t is to_fits within) in
    let others : are_plain ((row_at plan t).name ∷ codes "plan" ∷ []) ≡ true = rw (name_is_plain plan t is within) refl in
    rw short (ap (incoming_of_words plan to) (words_back (decimal to) ((row_at plan t).name ∷ codes "plan" ∷ []) (decimal_plain to to_fits) others) ∙ plan_back plan to t is to_fits within)

-- ---- the question what a server has of a volume

look_plain : (mark volume : ℕ) → mark < 2 ^ 64 → IsNumber volume → are_plain (look_words mark volume) ≡ true
look_plain mark volume fits number = rw (long_plain mark fits, decimal_plain volume number) refl

look_words_back : (mark volume : ℕ) → mark < 2 ^ 64 → IsNumber volume → look_of (look_words mark volume) ≡ Some (mark, volume)
unfolding mark_and_volume
look_words_back mark volume fits number = rw (long_numbers_read_back mark fits, numbers_read_back volume number) refl

look_short : (mark volume : ℕ) → mark < 2 ^ 64 → IsNumber volume → length (spaced (look_words mark volume)) ≤ 37
look_short mark volume fits number =
    let last = number_more volume [] 0 number (omega arith) in
    let marked = one_more (decimal mark) (decimal volume ∷ []) 20 11 (long_number mark fits) (omega (arith, last)) in
    omega (arith, one_more (codes "look") (decimal mark ∷ decimal volume ∷ []) 4 32 (omega arith) (omega (arith, marked)))

look_text_short : (plan : CheckedPlan) (to t mark volume : ℕ) → IsPlan plan → IsNumber to → t < length plan.rows → mark < 2 ^ 64 → IsNumber volume → length (look_text plan to t mark volume) ≤ longest_line plan
look_text_short plan to t mark volume is to_fits within fits number =
    let name = one_more (row_at plan t).name (look_words mark volume) 16 37 (short_name (row_at plan t).name (name_at plan t is within)) (look_short mark volume fits number) in
    omega (arith, length-append (decimal to) (spaced ((row_at plan t).name ∷ look_words mark volume)), short_number to to_fits, name)

look_back : (plan : CheckedPlan) (to t mark volume : ℕ) → IsPlan plan → IsNumber to → t < length plan.rows → mark < 2 ^ 64 → IsNumber volume →
    incoming_of_words plan to (decimal to ∷ (row_at plan t).name ∷ look_words mark volume) ≡ Look t mark volume
unfolding incoming_of_words
look_back plan to t mark volume is to_fits within fits number =
    rw (
      numbers_read_back to to_fits,
      eq-eqb to to refl,
      name_is_no_number (row_at plan t).name (name_at plan t is within),
      place_back plan t is within,
      look_words_back mark volume fits number,
    ) refl

pub looks_read_back : LooksReadBack
looks_read_back plan to t mark volume is to_fits within fits number =
    let short : nat_lt (longest_line plan) (length (look_text plan to t mark volume)) ≡ false = le-ltb (longest_line plan) (length (look_text plan to t mark volume)) (look_text_short plan to t mark volume is to_fits within fits number) in
    let others : are_plain ((row_at plan t).name ∷ look_words mark volume) ≡ true = rw (name_is_plain plan t is within) (look_plain mark volume fits number) in
    rw short (ap (incoming_of_words plan to) (words_back (decimal to) ((row_at plan t).name ∷ look_words mark volume) (decimal_plain to to_fits) others) ∙ look_back plan to t mark volume is to_fits within fits number)
