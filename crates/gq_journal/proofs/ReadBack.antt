-- A journal that was written is read.
use Rattle.std.proofs.Common.{◌≡◌, ℕ, suc, ◌+◌, ◌-◌, ◌%◌, ◌^◌, ◌<◌, ◌≤◌, List, [], ◌∷◌, ◌++◌, length, take, drop, slice_index, Bool, true, false, refl, sym, ap, ◌∙◌, arith, append_assoc, append-nil, length-append}
use Rattle.std.specs.Prelude.{◌&&◌, ◌||◌, decimal}
use Rattle.std.specs.List.{list_all}
use Rattle.std.specs.Str.{bytes_eq}
use Rattle.std.proofs.lemmas.Bool.{and_parts, le-leb}
use Rattle.std.proofs.lemmas.Fmt.{decimal_by_steps}
use Rattle.std.proofs.lemmas.List.{take-append-le}
use Rattle.std.proofs.lemmas.List.Folds.{list_all-append}
use Rattle.std.proofs.lemmas.Slice.Eq.{bytes_eq-Decides}
use Rattle.std.proofs.Math.Seq.{drop-append_seam}
use Rattle.std.proofs.lemmas.Grind.{flat_map-append}
use Rattle.gq_lines.specs.Words.{words_of, is_digit}
use Rattle.gq_lines.proofs.Numbers.{long_numbers_read_back}
use Rattle.gq_journal.specs.Batches.{Line, is_one_line, whole_lines, ended_line, lines_text, digest_word, is_sealing, seal, batches_from, batches_at, batch_text, journal_text, seals_by, right_in, is_batch_line, are_batch_lines}
use Rattle.gq_journal.specs.Laws.{Begins, BatchesReadBack, TornIsNone, TornEndIsPassedOver, RightIsFound}
use Rattle.gq_journal.proofs.Digests.{seal_one, seal_words}
use Rattle.gq_journal.proofs.Lines.{one_parts, open_parts, open_ones, lines_then, ended_then, lines_cut, open_line, sealed_line}

-- ---- lines that may stand in a batch

pub open_steps : (n : ℕ) (before lines more : List Line) → are_batch_lines lines ≡ true → batches_from n before (lines ++ more) ≡ batches_from n (before ++ lines) more
open_steps n before [] more are = ap (λ b. batches_from n b more) (sym (append-nil before))
open_steps n before (line ∷ lines) more are =
    let parts = open_parts line lines are in
    open_line n before line (lines ++ more) parts.1 ∙ open_steps n (before ++ line ∷ []) lines more parts.2 ∙ ap (λ b. batches_from n b more) (append_assoc before (line ∷ []) lines)

same_bytes : (a : List ℕ) → bytes_eq a a ≡ true
same_bytes a = (bytes_eq-Decides a a).1 refl

-- the decimal text of a number begins with a digit
begins_with_digit : (n : ℕ) → n < 2 ^ 64 → (rest : List ℕ) → is_digit (slice_index (decimal n ++ rest) 0) ≡ true
begins_with_digit = decimal_by_steps (λ m ds. (rest : List ℕ) → is_digit (slice_index (ds ++ rest) 0) ≡ true)
    (λ m small rest. digit m small)
    (λ m ds ten before rest. ap (λ t. is_digit (slice_index t 0)) (append_assoc ds ((48 + m % 10) ∷ []) rest) ∙ before ((48 + m % 10) ∷ rest))
  where
    digit : (m : ℕ) → m < 10 → is_digit (48 + m) ≡ true
    digit m small = rw (le-leb 48 (48 + m) (omega arith), le-leb (48 + m) 57 (omega arith)) refl

seal_seals_it : (n : ℕ) (text : List ℕ) → n < 2 ^ 64 → is_sealing (seal n text) ≡ true
seal_seals_it n text fits = begins_with_digit n fits (32 ∷ (decimal (length text) ++ 32 ∷ (digest_word n text ++ [])))

sealed_step : (n : ℕ) (before : List Line) (lines : List Line) → n < 2 ^ 64 → batches_from n before (seal n (lines_text before) ∷ lines) ≡ before ∷ batches_from (n + 1) [] lines
sealed_step n before lines fits = sealed_line n before (seal n (lines_text before)) lines (seal_seals_it n (lines_text before) fits) (same_bytes (seal n (lines_text before)))

batch_lines : (n : ℕ) (lines : List Line) (rest : List ℕ) → n < 2 ^ 64 → length (lines_text lines) < 2 ^ 64 → list_all is_one_line lines ≡ true →
    whole_lines (batch_text n lines ++ rest) ≡ lines ++ seal n (lines_text lines) ∷ whole_lines rest
batch_lines n lines rest fits short ones =
    ap whole_lines (append_assoc (lines_text lines) (ended_line (seal n (lines_text lines))) rest)
    ∙ lines_then lines (ended_line (seal n (lines_text lines)) ++ rest) ones
    ∙ ap (λ ls. lines ++ ls) (ended_then (seal n (lines_text lines)) rest (seal_one n (lines_text lines) fits short))

pub batch_back : (n : ℕ) (lines : List Line) (rest : List ℕ) → n < 2 ^ 64 → length (lines_text lines) < 2 ^ 64 → are_batch_lines lines ≡ true →
    batches_at n (batch_text n lines ++ rest) ≡ lines ∷ batches_at (n + 1) rest
batch_back n lines rest fits short are =
    ap (batches_from n []) (batch_lines n lines rest fits short (open_ones lines are))
    ∙ open_steps n [] lines (seal n (lines_text lines) ∷ whole_lines rest) are
    ∙ sealed_step n lines (whole_lines rest) fits

pub batches_read_back : BatchesReadBack
batches_read_back n [] rest fit = ap (λ m. batches_at m rest) (let e : n ≡ n + 0 = omega arith in e)
batches_read_back n (lines ∷ batches) rest fit =
    ap (batches_at n) (append_assoc (batch_text n lines) (journal_text (n + 1) batches) rest)
    ∙ batch_back n lines (journal_text (n + 1) batches ++ rest) fit.0.0 fit.0.1 fit.0.2
    ∙ ap (λ bs. lines ∷ bs) (batches_read_back (n + 1) batches rest fit.1 ∙ ap (λ m. batches ++ batches_at m rest) same)
  where
    same : n + 1 + length batches ≡ n + suc (length batches)
    same = omega arith

-- ---- a batch that is torn

one_none : (line : List ℕ) → is_one_line line ≡ true → whole_lines line ≡ []
one_none [] one = refl
one_none (c ∷ line) one =
    let parts = one_parts c line one in
    rw (parts.0, one_none line parts.1) refl

open_front : (first more : List Line) → are_batch_lines (first ++ more) ≡ true → are_batch_lines first ≡ true
open_front first more are = (and_parts (are_batch_lines first) (are_batch_lines more) (sym (list_all-append is_batch_line first more) ∙ are)).0

none_sealed : (n : ℕ) (lines : List Line) → are_batch_lines lines ≡ true → batches_from n [] lines ≡ []
none_sealed n lines are = ap (batches_from n []) (sym (append-nil lines)) ∙ open_steps n [] lines [] are

-- the lines of a batch that isn't whole don't seal
pub torn_open : (n k : ℕ) (lines : List Line) → n < 2 ^ 64 → length (lines_text lines) < 2 ^ 64 → are_batch_lines lines ≡ true → k < length (batch_text n lines) → are_batch_lines (whole_lines (take k (batch_text n lines))) ≡ true
torn_open n k lines fits short are less =
    ap (λ t. are_batch_lines (whole_lines t)) (ap (take k) (sym (append_assoc A S (10 ∷ []))) ∙ take-append-le k (A ++ S) (10 ∷ []) within)
    ∙ open_front (whole_lines (take k (A ++ S))) cut.0 (ap are_batch_lines (sym cut.1 ∙ all) ∙ are)
  where
    A : List ℕ
    A = lines_text lines

    S : List ℕ
    S = seal n (lines_text lines)

    within : k ≤ length (A ++ S)
    within = omega (arith, less, length-append A S, length-append A (S ++ 10 ∷ []), length-append S (10 ∷ []))

    all : whole_lines (A ++ S) ≡ lines
    all = lines_then lines S (open_ones lines are) ∙ ap (λ ls. lines ++ ls) (one_none S (seal_one n A fits short)) ∙ append-nil lines

    cut : Begins (whole_lines (take k (A ++ S))) (whole_lines (A ++ S))
    cut = lines_cut k (A ++ S)

pub torn_is_none : TornIsNone
torn_is_none n k lines fits less = none_sealed n (whole_lines (take k (batch_text n lines))) (torn_open n k lines fits.0 fits.1 fits.2 less)

pub torn_end_is_passed_over : TornEndIsPassedOver
torn_end_is_passed_over n k batches lines fit fits less =
    batches_read_back n batches (take k (batch_text (n + length batches) lines)) fit
    ∙ ap (λ more. batches ++ more) (torn_is_none (n + length batches) k lines fits less) ∙ append-nil batches

-- ---- a right batch is found

both_true : {a b : Bool} → a ≡ true → b ≡ true → (a && b) ≡ true
both_true x y = rw (x, y) refl

or-true : (a b : Bool) → b ≡ true → (a || b) ≡ true
or-true true b is = refl
or-true false b is = is

right_later : (b : List ℕ) (ls : List Line) (s : Line) (more : List Line) → (is_sealing s && seals_by (b ++ lines_text ls) s (words_of s)) ≡ true → right_in b (ls ++ s ∷ more) ≡ true
right_later b [] s more is = here (ap (λ x. is_sealing s && seals_by x s (words_of s)) (sym (append-nil b)) ∙ is)
  where
    here : (is_sealing s && seals_by b s (words_of s)) ≡ true → right_in b (s ∷ more) ≡ true
    here is = rw is refl
right_later b (l ∷ ls) s more is =
    or-true (is_sealing l && seals_by b l (words_of l)) (right_in (b ++ ended_line l) (ls ++ s ∷ more))
    (right_later (b ++ ended_line l) ls s more (ap (λ x. is_sealing s && seals_by x s (words_of s)) (append_assoc b (ended_line l) (lines_text ls)) ∙ is))

drop_front : (a b : List ℕ) → drop (length (a ++ b) - length b) (a ++ b) ≡ b
drop_front a b = ap (λ k. drop k (a ++ b)) (let e : length (a ++ b) - length b ≡ length a = omega (arith, length-append a b) in e) ∙ drop-append_seam a b

pub seal_seals : (n : ℕ) (a text : List ℕ) → n < 2 ^ 64 → length text < 2 ^ 64 → seals_by (a ++ text) (seal n text) (words_of (seal n text)) ≡ true
unfolding seals_by
seal_seals n a text fits short =
    rw (seal_words n text fits short, long_numbers_read_back n fits, long_numbers_read_back (length text) short, drop_front a text, same_bytes (seal n text), le-leb (length text) (length (a ++ text)) (omega (arith, length-append a text))) refl

pub right_is_found : RightIsFound
right_is_found before n lines rest ones batch =
    ap (right_in []) (ap whole_lines (append_assoc (lines_text before) (batch_text n lines) rest) ∙ lines_then before (batch_text n lines ++ rest) ones ∙ ap (λ ls. before ++ ls) (batch_lines n lines rest batch.0 batch.1 (open_ones lines batch.2)) ∙ sym (append_assoc before lines (seal n T ∷ whole_lines rest)))
    ∙ right_later [] (before ++ lines) (seal n T) (whole_lines rest) (both_true (seal_seals_it n T batch.0) (ap (λ x. seals_by x (seal n T) (words_of (seal n T))) (flat_map-append ended_line before lines) ∙ seal_seals n (lines_text before) T batch.0 batch.1))
  where
    T : List ℕ
    T = lines_text lines
