-- Lines and pages as they are read.
use Rattle.std.proofs.Common.{◌≡◌, ◌∙◌, ℕ, suc, ◌-◌, ◌≤◌, List, [], ◌∷◌, ◌++◌, length, take, drop, get_or, Option, Some, None, true, false, refl, ap, sym, arith, eq-eqb}
use Rattle.std.specs.Prelude.{◌==◌}
use Rattle.std.proofs.lemmas.Bool.{ne_eqb, le-ltb}
use Rattle.std.specs.Prelude.{nat_lt}
use Rattle.std.specs.Str.{bytes_eq}
use Rattle.std.proofs.lemmas.List.{take_rest}
use Rattle.gq_lines.specs.Words.{words_of, long_number_of}
use Rattle.gq_lines.specs.Lines.{lines_of}
use Rattle.gq_page.specs.declared.page.Line.{Line}
use Rattle.gq_page.specs.Text.{sign, signpost_of, onto, line_of_text, lines_said, page_headed, page_by, ends_a_line, page_of}
use Rattle.gq_page.proofs.Fronts.{in_front, in_front-onto}

-- one line more was read
pub goes_on : (lines : List Line) (line : Line) (rest after first : List ℕ) (whole : Option (List Line)) → lines_of rest ≡ first ∷ lines_of after → line_of_text first ≡ Some line
    → in_front lines (lines_said (lines_of rest)) ≡ whole → in_front (lines ++ line ∷ []) (lines_said (lines_of after)) ≡ whole
goes_on lines line rest after first whole cut is before =
    let step : lines_said (lines_of rest) ≡ onto line (lines_said (lines_of after)) = rw (cut, is) refl in
    in_front-onto lines line (lines_said (lines_of after)) ∙ ap (λ read. in_front lines read) (sym step) ∙ before

-- a line that begins as signposts do is one to the level that stands behind that
pub signpost_by : (text : List ℕ) (level : Option ℕ) → 27 ≤ length text → bytes_eq (take 27 text) sign ≡ true → level ≡ long_number_of (take (length text - 27) (drop 27 text)) → level ≡ signpost_of text
signpost_by text level long same is =
    let enough : nat_lt (length text) 27 ≡ false = le-ltb (length text) 27 long in
    let number : level ≡ long_number_of (drop 27 text) = is ∙ ap long_number_of (take_rest text 27) in
    number ∙ sym by_cases
  where
    by_cases : signpost_of text ≡ long_number_of (drop 27 text)
    by_cases = rw (le-ltb (length text) 27 long, same) refl

-- the last byte tells
ends_by_last : (text : List ℕ) → 1 ≤ length text → ends_a_line text ≡ (get_or text (length text - 1) 0 == 10)
ends_by_last [] some = absurd (omega arith)
ends_by_last (c ∷ []) some = refl
ends_by_last (c ∷ d ∷ text) some =
    let e : length (c ∷ d ∷ text) - 1 ≡ suc (length (d ∷ text) - 1) = omega arith in
    rw e (ends_by_last (d ∷ text) (omega arith))

-- a text of which the last byte is no newline is no page
pub no_page : (text : List ℕ) → 1 ≤ length text → (get_or text (length text - 1) 0 ≡ 10 → ⊥) → None ≡ page_of text
no_page [] some other = absurd (omega arith)
no_page (c ∷ text) some other =
    let open_end : ends_a_line (c ∷ text) ≡ false = ends_by_last (c ∷ text) some ∙ ne_eqb _ 10 other in
    rw open_end refl

-- any other is the page of its lines
pub page_by_lines : (text : List ℕ) → ends_a_line text ≡ true → page_of text ≡ page_by (lines_of text)
page_by_lines [] ended = absurd (no_false ended)
  where
    no_false : false ≡ true → ⊥
    no_false h = cc
page_by_lines (c ∷ text) ended = rw ended refl

pub page_of_lines : (text head rest : List ℕ) → 1 ≤ length text → get_or text (length text - 1) 0 ≡ 10 → lines_of text ≡ head ∷ lines_of rest → page_headed (words_of head) (lines_of rest) ≡ page_of text
page_of_lines text head rest some last cut =
    let ended : ends_a_line text ≡ true = ends_by_last text some ∙ eq-eqb _ 10 last in
    sym (page_by_lines text ended ∙ ap page_by cut)
