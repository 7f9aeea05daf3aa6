-- Where no right batch is found.
use Rattle.std.proofs.Common.{◌≡◌, ℕ, suc, ◌+◌, ◌^◌, ◌<◌, ◌≤◌, List, [], ◌∷◌, ◌++◌, length, take, Bool, true, false, refl, sym, ap, ◌∙◌, subst, arith, append-nil, length-append, cond}
use Rattle.std.specs.Prelude.{◌==◌, ◌&&◌, ◌||◌}
use Rattle.std.specs.Str.{bytes_eq}
use Rattle.std.proofs.lemmas.Grind.{flat_map-append}
use Rattle.gq_lines.specs.Words.{words_of}
use Rattle.gq_journal.specs.Batches.{Line, before_line, whole_lines, ended_line, lines_text, is_sealing, seal, batches_from, batch_text, seals_by, right_in, are_batch_lines}
use Rattle.gq_journal.specs.Laws.{NoneIsRead, TornHasNone, CutsHaveNone}
use Rattle.gq_journal.proofs.Lines.{open_parts, equal_lines, open_line, wrong_line, lines_cut}
use Rattle.gq_journal.proofs.ReadBack.{seal_seals, torn_open}

or_false : (a b : Bool) → (a || b) ≡ false → (a ≡ false) × (b ≡ false)
or_false true b e = let no : true ≡ false = e in cc
or_false false b e = (refl, e)

-- ---- what isn't found is not read

line_added : (before : List Line) (line : Line) → lines_text (before ++ line ∷ []) ≡ lines_text before ++ ended_line line
line_added before line = flat_map-append ended_line before (line ∷ []) ∙ ap (λ t. lines_text before ++ t) (append-nil (ended_line line))

none_step : (n : ℕ) (before : List Line) (line : Line) (lines : List Line) (sealing right : Bool) → is_sealing line ≡ sealing → bytes_eq line (seal n (lines_text before)) ≡ right →
    n < 2 ^ 64 → length (lines_text before) < 2 ^ 64 → (is_sealing line && seals_by (lines_text before) line (words_of line)) ≡ false → batches_from n (before ++ line ∷ []) lines ≡ [] →
    batches_from n before (line ∷ lines) ≡ []
none_step n before line lines true true a b fits short none more =
    let same = equal_lines line (seal n (lines_text before)) b in
    let it : seals_by (lines_text before) line (words_of line) ≡ true = subst (λ l. seals_by (lines_text before) l (words_of l) ≡ true) (sym same) (seal_seals n [] (lines_text before) fits short) in
    let yes : (is_sealing line && seals_by (lines_text before) line (words_of line)) ≡ true = rw (a, it) refl in
    let no : true ≡ false = sym yes ∙ none in
    cc
none_step n before line lines true false a b fits short none more = wrong_line n before line lines a b
none_step n before line lines false right a b fits short none more = open_line n before line lines a ∙ more

none_from : (n : ℕ) (before lines : List Line) → n < 2 ^ 64 → length (lines_text before) + length (lines_text lines) < 2 ^ 64 → right_in (lines_text before) lines ≡ false → batches_from n before lines ≡ []
none_from n before [] fits short none = refl
none_from n before (line ∷ lines) fits short none =
    let parts = or_false (is_sealing line && seals_by (lines_text before) line (words_of line)) (right_in (lines_text before ++ ended_line line) lines) none in
    none_step n before line lines (is_sealing line) (bytes_eq line (seal n (lines_text before))) refl refl fits (omega arith) parts.0
    (none_from n (before ++ line ∷ []) lines fits (omega (arith, ap length (line_added before line), length-append (lines_text before) (ended_line line), length-append (ended_line line) (lines_text lines)))
    (ap (λ t. right_in t lines) (line_added before line) ∙ parts.1))

shorter-step : (b : Bool) (x : ℕ) (lines : List Line) (xs : List ℕ) → length (lines_text lines) ≤ length xs → length (lines_text (cond b ([] ∷ lines) (before_line x lines))) ≤ suc (length xs)
shorter-step true x lines xs less = omega arith
shorter-step false x [] xs less = omega arith
shorter-step false x (line ∷ lines) xs less = omega arith

lines_shorter : (text : List ℕ) → length (lines_text (whole_lines text)) ≤ length text
lines_shorter [] = omega arith
lines_shorter (x ∷ xs) = shorter-step (x == 10) x (whole_lines xs) xs (lines_shorter xs)

pub none_is_read : NoneIsRead
none_is_read n text fits short none = none_from n [] (whole_lines text) fits (omega (arith, lines_shorter text)) none

-- ---- what is cut

open_has_none : (before : List ℕ) (lines : List Line) → are_batch_lines lines ≡ true → right_in before lines ≡ false
open_has_none before [] are = refl
open_has_none before (line ∷ lines) are =
    let parts = open_parts line lines are in
    rw (parts.1, open_has_none (before ++ ended_line line) lines parts.2) refl

pub torn_has_none : TornHasNone
torn_has_none n k lines fits less = open_has_none [] (whole_lines (take k (batch_text n lines))) (torn_open n k lines fits.0 fits.1 fits.2 less)

front_has_none : (before : List ℕ) (first more : List Line) → right_in before (first ++ more) ≡ false → right_in before first ≡ false
front_has_none before [] more none = refl
front_has_none before (line ∷ first) more none =
    let parts = or_false (is_sealing line && seals_by before line (words_of line)) (right_in (before ++ ended_line line) (first ++ more)) none in
    rw (parts.0, front_has_none (before ++ ended_line line) first more parts.1) refl

pub cuts_have_none : CutsHaveNone
cuts_have_none k text none =
    let cut = lines_cut k text in
    front_has_none [] (whole_lines (take k text)) cut.0 (ap (right_in []) (sym cut.1) ∙ none)
