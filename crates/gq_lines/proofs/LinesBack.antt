-- Words put together to lines are read as these words and lines.
use Rattle.std.proofs.Common.{◌≡◌, ℕ, List, [], ◌∷◌, ◌++◌, true, refl, ap, sym, ◌∙◌, append_assoc, append-nil}
use Rattle.std.proofs.lemmas.Bool.{and_parts}
use Rattle.gq_lines.specs.Words.{Word, words_of}
use Rattle.gq_lines.specs.Lines.{lines_of}
use Rattle.gq_lines.specs.Written.{spaced, ended, line_text}
use Rattle.gq_lines.proofs.Plain.{is_plain, are_plain, is_inner, plain_parts, inner_parts, line_inner}

-- a first word, and the words after it
word_then : (first : Word) (rest : List ℕ) (words : List Word) → is_plain first ≡ true → words_of rest ≡ words → words_of (first ++ 32 ∷ rest) ≡ first ∷ words
word_then [] rest words plain is = ap (λ ws. [] ∷ ws) is
word_then (c ∷ first) rest words plain is =
    let parts = plain_parts c first plain in
    rw (parts.0.1, word_then first rest words parts.1 is) refl

word_alone : (first : Word) → is_plain first ≡ true → words_of first ≡ first ∷ []
word_alone [] plain = refl
word_alone (c ∷ first) plain =
    let parts = plain_parts c first plain in
    rw (parts.0.1, word_alone first parts.1) refl

-- the words of a line of words
pub words_back : (first : Word) (words : List Word) → is_plain first ≡ true → are_plain words ≡ true → words_of (first ++ spaced words) ≡ first ∷ words
words_back first [] one each = rw append-nil (word_alone first one)
words_back first (word ∷ words) one each =
    let parts = and_parts (is_plain word) (are_plain words) each in
    word_then first (word ++ spaced words) (word ∷ words) one (words_back word words parts.0 parts.1)

-- a line without a newline, and the lines after it
line_then : (line rest : List ℕ) → is_inner line ≡ true → lines_of (line ++ 10 ∷ rest) ≡ line ∷ lines_of rest
line_then [] rest inner = refl
line_then (c ∷ line) rest inner =
    let parts = inner_parts c line inner in
    rw (parts.0, line_then line rest parts.1) refl

-- the line of a first word and other words, and the lines after it
pub line_back : (first : Word) (words : List Word) (rest : List ℕ) → is_plain first ≡ true → are_plain words ≡ true → lines_of (line_text first words ++ rest) ≡ (first ++ spaced words) ∷ lines_of rest
line_back first words rest one each =
    let text : line_text first words ++ rest ≡ (first ++ spaced words) ++ 10 ∷ rest =
    append_assoc first (ended words) rest ∙ ap (λ x. first ++ x) (append_assoc (spaced words) (10 ∷ []) rest) ∙ sym (append_assoc first (spaced words) (10 ∷ rest)) in
    ap lines_of text ∙ line_then (first ++ spaced words) rest (line_inner first words one each)
