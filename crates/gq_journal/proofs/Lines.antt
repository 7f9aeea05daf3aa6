-- Lines of a text, and the bytes that are none of a newline.
use Rattle.std.proofs.Common.{◌≡◌, ℕ, zero, suc, ◌+◌, ◌-◌, ◌<◌, List, [], ◌∷◌, ◌++◌, length, get_or, take, drop, Some, None, Bool, true, false, refl, sym, ap, ◌∙◌, arith, append_assoc, add-one, length-drop, cond}
use Rattle.std.specs.Prelude.{◌==◌, ◌||◌, not, Option, is_some}
use Rattle.std.specs.List.{list_all, list_any}
use Rattle.std.specs.Str.{bytes_eq}
use Rattle.std.proofs.Math.Seq.{take-length}
use Rattle.std.proofs.lemmas.Slice.Eq.{bytes_eq-Decides}
use Rattle.std.proofs.lemmas.Bool.{and_parts, ne_eqb, eq-eqb, eqb-true}
use Rattle.memchr.specs.Find.{IsFirstByte, is_byte}
use Rattle.gq_journal.specs.Batches.{Line, is_one_line, is_sealing, seal, before_line, whole_lines, ended_line, lines_text, batches_from, is_batch_line, are_batch_lines}
use Rattle.gq_journal.specs.Laws.{Begins}

pub not-true : (b : Bool) → not b ≡ true → b ≡ false
not-true true h = sym h
not-true false h = refl

pub one_parts : (c : ℕ) (line : Line) → is_one_line (c ∷ line) ≡ true → ((c == 10) ≡ false) × (is_one_line line ≡ true)
one_parts c line one =
    let parts = and_parts (not (c == 10)) (is_one_line line) one in
    (not-true (c == 10) parts.0, parts.1)

-- ---- the first line

line-newline : (text : List ℕ) (i : ℕ) → i < length text → get_or text i 0 ≡ 10 → ((k : ℕ) → k < i → get_or text k 0 ≡ 10 → ⊥)
    → whole_lines text ≡ take i text ∷ whole_lines (drop (suc i) text)
line-newline [] i lt e h = absurd (omega arith)
line-newline (x ∷ xs) zero lt e h = rw e refl
line-newline (x ∷ xs) (suc i) lt e h =
    let no : (x == 10) ≡ false = ne_eqb x 10 (h 0 (omega arith)) in
    let rest = line-newline xs i (omega arith) e (λ k below. h (suc k) (omega arith)) in
    rw (no, rest) refl

text-newline : (text : List ℕ) (i : ℕ) → i < length text → get_or text i 0 ≡ 10 → text ≡ (take i text ++ 10 ∷ []) ++ drop (suc i) text
text-newline [] i lt e = absurd (omega arith)
text-newline (x ∷ xs) zero lt e = ap (λ y. y ∷ xs) e
text-newline (x ∷ xs) (suc i) lt e = ap (λ ys. x ∷ ys) (text-newline xs i (omega arith) e)

none-newline : (text : List ℕ) → ((k : ℕ) → k < length text → get_or text k 0 ≡ 10 → ⊥) → whole_lines text ≡ []
none-newline [] h = refl
none-newline (x ∷ xs) h =
    let no : (x == 10) ≡ false = ne_eqb x 10 (h 0 (omega arith)) in
    let rest = none-newline xs (λ k below. h (suc k) (omega arith)) in
    rw (no, rest) refl

behind : (text : List ℕ) (i : ℕ) → take (length text - (i + 1)) (drop (i + 1) text) ≡ drop (i + 1) text
behind text i = rw (← length-drop (i + 1) text) (take-length (drop (i + 1) text))

pub found_lines : (text : List ℕ) (i : ℕ) → IsFirstByte (is_byte 10) text (Some i) → whole_lines text ≡ take i text ∷ whole_lines (take (length text - (i + 1)) (drop (i + 1) text))
found_lines text i is =
    rw (behind text i, add-one) (line-newline text i is.0.high (eqb-true (get_or text i 0) 10 is.1) (λ k below e. is.0.before k (omega arith) below (eq-eqb (get_or text k 0) 10 e)))

pub found_text : (text : List ℕ) (i : ℕ) → IsFirstByte (is_byte 10) text (Some i) → text ≡ ended_line (take i text) ++ take (length text - (i + 1)) (drop (i + 1) text)
found_text text i is = rw (behind text i, add-one) (text-newline text i is.0.high (eqb-true (get_or text i 0) 10 is.1))

no-newline : (text : List ℕ) (i : ℕ) → i < length text → ((k : ℕ) → k < i → get_or text k 0 ≡ 10 → ⊥) → is_one_line (take i text) ≡ true
no-newline text zero lt h = refl
no-newline [] (suc i) lt h = refl
no-newline (x ∷ xs) (suc i) lt h =
    let no : (x == 10) ≡ false = ne_eqb x 10 (h 0 (omega arith)) in
    rw (no, no-newline xs i (omega arith) (λ k below. h (suc k) (omega arith))) refl

pub found_one : (text : List ℕ) (i : ℕ) → IsFirstByte (is_byte 10) text (Some i) → is_one_line (take i text) ≡ true
found_one text i is = no-newline text i is.0.high (λ k below e. is.0.before k (omega arith) below (eq-eqb (get_or text k 0) 10 e))

pub none_lines : (text : List ℕ) → IsFirstByte (is_byte 10) text None → whole_lines text ≡ []
none_lines text is = none-newline text (λ k below e. is k (omega arith) below (eq-eqb (get_or text k 0) 10 e))

-- ---- whether a byte is anywhere in a text

some-byte : (b : ℕ) (text : List ℕ) (i : ℕ) → i < length text → (get_or text i 0 == b) ≡ true → list_any (λ c. c == b) text ≡ true
some-byte b [] i lt e = absurd (omega arith)
some-byte b (x ∷ xs) zero lt e = rw e refl
some-byte b (x ∷ xs) (suc i) lt e = either (x == b) (list_any (λ c. c == b) xs) (some-byte b xs i (omega arith) e)
  where
    either : (p q : Bool) → q ≡ true → (p || q) ≡ true
    either true q is = refl
    either false q is = is

no-byte : (b : ℕ) (text : List ℕ) → ((k : ℕ) → k < length text → (get_or text k 0 == b) ≡ true → ⊥) → list_any (λ c. c == b) text ≡ false
no-byte b [] h = refl
no-byte b (x ∷ xs) h = neither (x == b) (list_any (λ c. c == b) xs) (h 0 (omega arith)) (no-byte b xs (λ k below. h (suc k) (omega arith)))
  where
    neither : (p q : Bool) → (p ≡ true → ⊥) → q ≡ false → (p || q) ≡ false
    neither true q h is = absurd (h refl)
    neither false q h is = is

pub found_byte : (b : ℕ) (text : List ℕ) (found : Option ℕ) → IsFirstByte (is_byte b) text found → is_some found ≡ list_any (λ c. c == b) text
found_byte b text (Some i) is = sym (some-byte b text i is.0.high is.1)
found_byte b text None is = sym (no-byte b text (λ k below e. is k (omega arith) below e))

-- ---- lines put together

line_then : (line rest : List ℕ) → is_one_line line ≡ true → whole_lines (line ++ 10 ∷ rest) ≡ line ∷ whole_lines rest
line_then [] rest one = refl
line_then (c ∷ line) rest one =
    let parts = one_parts c line one in
    rw (parts.0, line_then line rest parts.1) refl

pub ended_then : (line rest : List ℕ) → is_one_line line ≡ true → whole_lines (ended_line line ++ rest) ≡ line ∷ whole_lines rest
ended_then line rest one = ap whole_lines (append_assoc line (10 ∷ []) rest) ∙ line_then line rest one

pub lines_then : (lines : List Line) (rest : List ℕ) → list_all is_one_line lines ≡ true → whole_lines (lines_text lines ++ rest) ≡ lines ++ whole_lines rest
lines_then [] rest ones = refl
lines_then (line ∷ lines) rest ones =
    let parts = and_parts (is_one_line line) (list_all is_one_line lines) ones in
    ap whole_lines (append_assoc (ended_line line) (lines_text lines) rest) ∙ ended_then line (lines_text lines ++ rest) parts.0 ∙ ap (λ ls. line ∷ ls) (lines_then lines rest parts.1)

-- ---- lines of a text that is cut

Begins-cons : {A : Type 0} (x : A) (first whole : List A) → Begins first whole → Begins (x ∷ first) (x ∷ whole)
Begins-cons x first whole b = (b.0, ap (λ xs. x ∷ xs) b.1)

before_line-cut : (x : ℕ) (first whole : List Line) → Begins first whole → Begins (before_line x first) (before_line x whole)
before_line-cut x [] whole b = (before_line x whole, refl)
before_line-cut x (line ∷ first) whole b = (b.0, ap (before_line x) b.1)

cut-step : (b : Bool) (x : ℕ) (first whole : List Line) → Begins first whole → Begins (cond b ([] ∷ first) (before_line x first)) (cond b ([] ∷ whole) (before_line x whole))
cut-step true x first whole b = Begins-cons [] first whole b
cut-step false x first whole b = before_line-cut x first whole b

pub lines_cut : (k : ℕ) (text : List ℕ) → Begins (whole_lines (take k text)) (whole_lines text)
lines_cut zero text = (whole_lines text, refl)
lines_cut (suc k) [] = ([], refl)
lines_cut (suc k) (x ∷ xs) = cut-step (x == 10) x (whole_lines (take k xs)) (whole_lines xs) (lines_cut k xs)

-- ---- lines that may stand in a batch

pub open_parts : (line : Line) (lines : List Line) → are_batch_lines (line ∷ lines) ≡ true → (is_one_line line ≡ true) × (is_sealing line ≡ false) × (are_batch_lines lines ≡ true)
open_parts line lines are =
    let parts = and_parts (is_batch_line line) (are_batch_lines lines) are in
    let own = and_parts (is_one_line line) (not (is_sealing line)) parts.0 in
    (own.0, not-true (is_sealing line) own.1, parts.1)

pub open_ones : (lines : List Line) → are_batch_lines lines ≡ true → list_all is_one_line lines ≡ true
open_ones [] are = refl
open_ones (line ∷ lines) are =
    let parts = open_parts line lines are in
    rw (parts.0, open_ones lines parts.2) refl

-- ---- a line that seals, and one that doesn't

pub equal_lines : (a b : List ℕ) → bytes_eq a b ≡ true → a ≡ b
equal_lines a b e = (bytes_eq-Decides a b).0 e

pub open_line : (n : ℕ) (before : List Line) (line : Line) (lines : List Line) → is_sealing line ≡ false → batches_from n before (line ∷ lines) ≡ batches_from n (before ++ line ∷ []) lines
open_line n before line lines not_it = rw not_it refl

pub sealed_line : (n : ℕ) (before : List Line) (line : Line) (lines : List Line) → is_sealing line ≡ true → bytes_eq line (seal n (lines_text before)) ≡ true → batches_from n before (line ∷ lines) ≡ before ∷ batches_from (n + 1) [] lines
sealed_line n before line lines seals_it right = rw (seals_it, right) refl

pub wrong_line : (n : ℕ) (before : List Line) (line : Line) (lines : List Line) → is_sealing line ≡ true → bytes_eq line (seal n (lines_text before)) ≡ false → batches_from n before (line ∷ lines) ≡ []
wrong_line n before line lines seals_it wrong = rw (seals_it, wrong) refl
