-- Lines of a text taken one by one.
use Rattle.std.proofs.Common.{◌≡◌, ℕ, ◌+◌, ◌-◌, ◌<◌, List, [], ◌∷◌, ◌++◌, length, take, true, false, refl, sym, ap, ◌∙◌, arith, append_assoc, append-nil, length-append}
use Rattle.std.specs.Prelude.{◌&&◌}
use Rattle.std.specs.List.{list_all}
use Rattle.std.specs.Str.{bytes_eq}
use Rattle.std.proofs.lemmas.Bool.{and_parts}
use Rattle.std.proofs.lemmas.Grind.{flat_map-append}
use Rattle.std.proofs.lemmas.List.Folds.{list_all-append}
use Rattle.std.proofs.Math.Seq.{take-append_seam}
use Rattle.gq_lines.specs.Words.{words_of}
use Rattle.gq_journal.specs.Batches.{Line, is_one_line, whole_lines, ended_line, lines_text, is_sealing, seal, batches_from, batches_at, seals_by, right_in, has_right_batch, is_batch_line, are_batch_lines, CanBeSealed}
use Rattle.gq_journal.proofs.Lines.{lines_then, open_ones, open_parts, equal_lines, open_line, sealed_line, wrong_line}

-- of the text these lines were taken, and the rest is left: what is read of the text is what is read of the rest behind them
pub record Scanned (n : ℕ) (text rest : List ℕ) : Type 0 where
  pub lines : List Line
  pub is : text ≡ lines_text lines ++ rest
  pub read : batches_at n text ≡ batches_from n lines (whole_lines rest)
  pub opened : are_batch_lines lines ≡ true

-- the same, where a right batch is looked for
pub record Searched (text rest : List ℕ) : Type 0 where
  pub before : List ℕ
  pub is : text ≡ before ++ rest
  pub found : has_right_batch text ≡ right_in before (whole_lines rest)

-- a line was taken of the rest
pub record Taken (rest line after : List ℕ) : Type 0 where
  pub lines : whole_lines rest ≡ line ∷ whole_lines after
  pub text : rest ≡ ended_line line ++ after

pub shorter : (rest line after : List ℕ) → Taken rest line after → length after < length rest
shorter rest line after t = rw (t.text, length-append (ended_line line) after, length-append line (10 ∷ [])) (omega arith)

pub scanned_none : (n : ℕ) (text : List ℕ) → Scanned n text text
scanned_none n text = record { lines = []; is = refl; read = refl; opened = refl }

pub searched_none : (text : List ℕ) → Searched text text
searched_none text = record { before = []; is = refl; found = refl }

one_more : (lines : List Line) (line after : List ℕ) → lines_text lines ++ (ended_line line ++ after) ≡ lines_text (lines ++ line ∷ []) ++ after
one_more lines line after =
    sym (append_assoc (lines_text lines) (ended_line line) after)
    ∙ ap (λ x. (lines_text lines ++ x) ++ after) (sym (append-nil (ended_line line)))
    ∙ ap (λ x. x ++ after) (sym (flat_map-append ended_line lines (line ∷ [])))

pub scanned_more : (n : ℕ) (text rest line after : List ℕ) → Scanned n text rest → Taken rest line after → is_one_line line ≡ true → is_sealing line ≡ false → Scanned n text after
scanned_more n text rest line after s t one not_it = record {
  lines = s.lines ++ line ∷ [];
  is = s.is ∙ ap (λ x. lines_text s.lines ++ x) t.text ∙ one_more s.lines line after;
  read = s.read ∙ ap (batches_from n s.lines) t.lines ∙ open_line n s.lines line (whole_lines after) not_it;
  opened = rw (list_all-append is_batch_line s.lines (line ∷ []), s.opened, one, not_it) refl;
}

pub scanned_end : (n : ℕ) (text rest : List ℕ) → Scanned n text rest → whole_lines rest ≡ [] → batches_at n text ≡ []
scanned_end n text rest s none = s.read ∙ ap (batches_from n s.lines) none

-- ---- what was taken, as the code slices it

not_longer : (front rest : List ℕ) → length (front ++ rest) - length rest ≡ length front
not_longer front rest = omega (arith, length-append front rest)

pub front_is : (text front rest : List ℕ) → text ≡ front ++ rest → take (length text - length rest) text ≡ front
front_is text front rest is =
    ap (λ x. take (length x - length rest) x) is ∙ ap (λ k. take k (front ++ rest)) (not_longer front rest) ∙ take-append_seam front rest

pub scanned_front : (n : ℕ) (text rest : List ℕ) (s : Scanned n text rest) → take (length text - length rest) text ≡ lines_text s.lines
scanned_front n text rest s = front_is text (lines_text s.lines) rest s.is

body_lines : (lines : List Line) → list_all is_one_line lines ≡ true → whole_lines (lines_text lines) ≡ lines
body_lines lines ones = ap whole_lines (sym (append-nil (lines_text lines))) ∙ lines_then lines [] ones ∙ append-nil lines

pub sealed_right : (n : ℕ) (text rest line after body : List ℕ) → (s : Scanned n text rest) → body ≡ lines_text s.lines → Taken rest line after → is_sealing line ≡ true → bytes_eq line (seal n body) ≡ true →
    batches_at n text ≡ whole_lines body ∷ batches_at (n + 1) after
sealed_right n text rest line after body s is t seals_it right =
    s.read ∙ ap (batches_from n s.lines) t.lines ∙ sealed_line n s.lines line (whole_lines after) seals_it (ap (λ b. bytes_eq line (seal n b)) (sym is) ∙ right)
    ∙ ap (λ b. b ∷ batches_at (n + 1) after) (sym (ap whole_lines is ∙ body_lines s.lines (open_ones s.lines s.opened)))

pub sealed_wrong : (n : ℕ) (text rest line after body : List ℕ) → (s : Scanned n text rest) → body ≡ lines_text s.lines → Taken rest line after → is_sealing line ≡ true → bytes_eq line (seal n body) ≡ false →
    batches_at n text ≡ []
sealed_wrong n text rest line after body s is t seals_it wrong =
    s.read ∙ ap (batches_from n s.lines) t.lines ∙ wrong_line n s.lines line (whole_lines after) seals_it (ap (λ b. bytes_eq line (seal n b)) (sym is) ∙ wrong)

pub sealed_text_is : (n : ℕ) (text rest line after body : List ℕ) → (s : Scanned n text rest) → body ≡ lines_text s.lines → Taken rest line after → bytes_eq line (seal n body) ≡ true →
    text ≡ (body ++ ended_line (seal n body)) ++ after
sealed_text_is n text rest line after body s is t right =
    s.is ∙ ap (λ b. b ++ rest) (sym is) ∙ ap (λ r. body ++ r) (t.text ∙ ap (λ l. ended_line l ++ after) (equal_lines line (seal n body) right))
    ∙ sym (append_assoc body (ended_line (seal n body)) after)

pub can_be_sealed : (n : ℕ) (text rest body : List ℕ) → (s : Scanned n text rest) → body ≡ lines_text s.lines → CanBeSealed body
can_be_sealed n text rest body s is = record {
  is = ap lines_text same ∙ sym is;
  fit = ap are_batch_lines same ∙ s.opened;
}
  where
    same : whole_lines body ≡ s.lines
    same = ap whole_lines is ∙ body_lines s.lines (open_ones s.lines s.opened)

-- ---- a right batch that is looked for

found_line : (before : List ℕ) (line : Line) (lines : List Line) → is_sealing line ≡ true → seals_by before line (words_of line) ≡ true → right_in before (line ∷ lines) ≡ true
found_line before line lines seals_it right = rw (seals_it, right) refl

not_found : (before : List ℕ) (line : Line) (lines : List Line) → (is_sealing line && seals_by before line (words_of line)) ≡ false → right_in before (line ∷ lines) ≡ right_in (before ++ ended_line line) lines
not_found before line lines not_it = rw not_it refl

pub searched_more : (text rest line after : List ℕ) → Searched text rest → Taken rest line after → (is_sealing line && seals_by (take (length text - length rest) text) line (words_of line)) ≡ false → Searched text after
searched_more text rest line after s t not_it = record {
  before = s.before ++ ended_line line;
  is = s.is ∙ ap (λ x. s.before ++ x) t.text ∙ sym (append_assoc s.before (ended_line line) after);
  found = s.found ∙ ap (right_in s.before) t.lines ∙ not_found s.before line (whole_lines after) (ap (λ b. is_sealing line && seals_by b line (words_of line)) (sym (front_is text s.before rest s.is)) ∙ not_it);
}

pub searched_found : (text rest line after : List ℕ) → Searched text rest → Taken rest line after → is_sealing line ≡ true → seals_by (take (length text - length rest) text) line (words_of line) ≡ true → has_right_batch text ≡ true
searched_found text rest line after s t seals_it right =
    s.found ∙ ap (right_in s.before) t.lines ∙ found_line s.before line (whole_lines after) seals_it (ap (λ b. seals_by b line (words_of line)) (sym (front_is text s.before rest s.is)) ∙ right)

pub searched_end : (text rest : List ℕ) → Searched text rest → whole_lines rest ≡ [] → has_right_batch text ≡ false
searched_end text rest s none = s.found ∙ ap (right_in s.before) none

empty_of : (xs : List ℕ) → length xs ≡ 0 → xs ≡ []
empty_of [] none = refl
empty_of (x ∷ xs) none = absurd (omega arith)

-- a text that was taken to its end is a batch's
pub all_batch : (n : ℕ) (text rest : List ℕ) → Scanned n text rest → length rest ≡ 0 → CanBeSealed text
all_batch n text rest s none = can_be_sealed n text rest text s (s.is ∙ ap (λ r. lines_text s.lines ++ r) (empty_of rest none) ∙ append-nil (lines_text s.lines))

-- a line that seals stands in no batch
pub seals_no_batch : (n : ℕ) (text rest line after : List ℕ) → Scanned n text rest → Taken rest line after → is_sealing line ≡ true → CanBeSealed text → ⊥
seals_no_batch n text rest line after s t seals_it b =
    let same : whole_lines text ≡ s.lines ++ line ∷ whole_lines after = ap whole_lines s.is ∙ lines_then s.lines rest (open_ones s.lines s.opened) ∙ ap (λ ls. s.lines ++ ls) t.lines in
    let both = and_parts (are_batch_lines s.lines) (are_batch_lines (line ∷ whole_lines after)) (sym (list_all-append is_batch_line s.lines (line ∷ whole_lines after)) ∙ ap are_batch_lines (sym same) ∙ b.fit) in
    let not_it = (open_parts line (whole_lines after) both.1).1 in
    let no : true ≡ false = sym seals_it ∙ not_it in
    cc

-- nor do bytes without a newline
pub ends_no_batch : (n : ℕ) (text rest : List ℕ) → Scanned n text rest → whole_lines rest ≡ [] → CanBeSealed text → length rest ≡ 0
ends_no_batch n text rest s none b =
    let same : whole_lines text ≡ s.lines = ap whole_lines s.is ∙ lines_then s.lines rest (open_ones s.lines s.opened) ∙ ap (λ ls. s.lines ++ ls) none ∙ append-nil s.lines in
    let text_is : lines_text s.lines ≡ lines_text s.lines ++ rest = ap lines_text (sym same) ∙ b.is ∙ s.is in
    omega (arith, ap length text_is, length-append (lines_text s.lines) rest)
