-- A line cut behind its first word.
use Rattle.std.proofs.Common.{◌≡◌, ◌∙◌, ℕ, ◌+◌, ◌-◌, ◌<◌, ◌≤◌, List, [], ◌∷◌, ◌++◌, length, get_or, take, drop, refl, sym, ap, arith, suc, zero, inl, inr, ◌⊎◌, length-drop}
use Rattle.std.proofs.Math.Seq.{take-add}
use Rattle.std.proofs.lemmas.Bool.{cases_lt}
use Rattle.std.proofs.lemmas.List.{length-take-le, take_rest, drop-take}
use Rattle.gq_lines.specs.Words.{words_of, words_after}
use Rattle.gq_lines.specs.Lines.{lines_of, IsCut}
use Rattle.gq_lines.proofs.WordsLemmas.{first_word_at, one_word}
use Rattle.gq_lines.proofs.LinesLemmas.{lines_of-line}
use Rattle.gq_lines.proofs.Marking.{get_or-take-here}

take_less : (f n : ℕ) (text : List ℕ) → f ≤ n → take f (take n text) ≡ take f text
take_less zero n text le = refl
take_less (suc f) zero text le = absurd (omega arith)
take_less (suc f) (suc n) [] le = refl
take_less (suc f) (suc n) (x ∷ text) le = ap (λ xs. x ∷ xs) (take_less f n text (omega arith))

-- the two parts are the line
whole : (text : List ℕ) (f n : ℕ) → f ≤ n → take f text ++ take (n - f) (drop f text) ≡ take n text
whole text f n le =
    let sum : f + (n - f) ≡ n = omega arith in
    sym (take-add f (n - f) text) ∙ ap (λ m. take m text) sum

-- the words of the line
cut_words : (text : List ℕ) (f n : ℕ) → f ≤ n → n ≤ length text → ((k : ℕ) → k < f → get_or text k 0 ≡ 32 → ⊥) → (f < n → get_or text f 0 ≡ 32)
    → words_of (take n text) ≡ take f text ∷ words_after (take (n - f) (drop f text))
cut_words text f n le within before here = by (cases_lt f n)
  where
    by : (f < n) ⊎ (n ≤ f) → words_of (take n text) ≡ take f text ∷ words_after (take (n - f) (drop f text))
    by (inl lt) =
        let long : length (take n text) ≡ n = length-take-le n text within in
        let sum : f + (n - f) ≡ n = omega arith in
        let at : words_of (take n text) ≡ take f (take n text) ∷ words_after (drop f (take n text)) =
        first_word_at (take n text) f (omega arith) (λ k h is. before k h (sym (get_or-take-here n k text (omega arith)) ∙ is)) (get_or-take-here n f text lt ∙ here lt) in
        let front : take f (take n text) ≡ take f text = take_less f n text le in
        let back : drop f (take n text) ≡ take (n - f) (drop f text) = ap (λ m. drop f (take m text)) (sym sum) ∙ drop-take f (n - f) text in
        at ∙ ap (λ x. x ∷ words_after (drop f (take n text))) front ∙ ap (λ x. take f text ∷ words_after x) back
    by (inr ge) =
        let same : f ≡ n = omega arith in
        let none : n - f ≡ 0 = omega arith in
        let long : length (take n text) ≡ n = length-take-le n text within in
        let one : words_of (take n text) ≡ take n text ∷ [] =
        one_word (take n text) (λ k h is. before k (omega arith) (sym (get_or-take-here n k text (omega arith)) ∙ is)) in
        rw (none, same) one

pub cut_near : (text : List ℕ) (f n : ℕ) → f ≤ n → n < length text → get_or text n 0 ≡ 10 → ((k : ℕ) → k < n → get_or text k 0 ≡ 10 → ⊥)
    → ((k : ℕ) → k < f → get_or text k 0 ≡ 32 → ⊥) → (f < n → get_or text f 0 ≡ 32)
    → IsCut text (take f text) (take (n - f) (drop f text)) (take (length text - (n + 1)) (drop (n + 1) text))
cut_near text f n le within newline before none space =
    let line : take f text ++ take (n - f) (drop f text) ≡ take n text = whole text f n le in
    let rest : take (length text - (n + 1)) (drop (n + 1) text) ≡ drop (n + 1) text = take_rest text (n + 1) in
    record {
      lines = rw line (lines_of-line text n within newline before);
      words = rw line (cut_words text f n le (omega arith) none space);
      shorter = rw rest (omega (arith, length-drop (n + 1) text));
    }

-- a line that was found and then cut
pub cut_far : (text line after first rest : List ℕ) → lines_of text ≡ line ∷ lines_of after → length after < length text → words_of line ≡ first ∷ words_after rest → line ≡ first ++ rest → IsCut text first rest after
cut_far text line after first rest lines less words whole = record {
  lines = rw whole at lines;
  words = rw whole at words;
  shorter = less;
}
