-- The words of a text, one after another.
use Rattle.std.proofs.Common.{◌≡◌, ℕ, zero, suc, ◌-◌, ◌<◌, List, [], ◌∷◌, length, get_or, take, drop, refl, arith, eq-eqb, eqb, Bool, true, false, cond}
use Rattle.std.specs.List.{onto_first}
use Rattle.std.specs.Prelude.{◌==◌, MatchBool}
use Rattle.std.proofs.lemmas.Grind.{common_steps}
use Rattle.gq_lines.specs.Words.{Word, words_of, words_after}
use Rattle.std.proofs.lemmas.Bool.{ne_eqb}
use Rattle.std.proofs.Math.Dec.{eqb-suc-zero}

pub first_word_at : (text : List ℕ) (i : ℕ) → i < length text → ((k : ℕ) → k < i → get_or text k 0 ≡ 32 → ⊥) → get_or text i 0 ≡ 32 → words_of text ≡ take i text ∷ words_after (drop i text)
first_word_at [] i inside before here = absurd (omega arith)
first_word_at (c ∷ text) zero inside before here = rw (eq-eqb c 32 here) refl
first_word_at (c ∷ text) (suc i) inside before here =
    rw (ne_eqb c 32 (before 0 (omega arith)), first_word_at text i (omega arith) (λ k h. before (suc k) (omega arith)) here) refl

pub one_word : (text : List ℕ) → ((k : ℕ) → k < length text → get_or text k 0 ≡ 32 → ⊥) → words_of text ≡ text ∷ []
one_word [] none = refl
one_word (c ∷ text) none = rw (ne_eqb c 32 (none 0 (omega arith)), one_word text (λ k h. none (suc k) (omega arith))) refl

some_onto : (c : ℕ) (words : List Word) → (w : Word) × (ws : List Word) × (onto_first c words ≡ w ∷ ws)
some_onto c [] = (c ∷ [], [], refl)
some_onto c (w ∷ ws) = (c ∷ w, ws, refl)

some_cond : (b : Bool) (c : ℕ) (words : List Word) → (w : Word) × (ws : List Word) × (cond b ([] ∷ words) (onto_first c words) ≡ w ∷ ws)
some_cond true c words = ([], words, refl)
some_cond false c words = some_onto c words

-- a text has a first word
pub some_word : (text : List ℕ) → (w : Word) × (ws : List Word) × (words_of text ≡ w ∷ ws)
some_word [] = ([], [], refl)
some_word (c ∷ text) = some_cond (c == 32) c (words_of text)

-- the rest of a text, as the code slices it
pub whole_rest : (text : List ℕ) (i : ℕ) → take (length text - i) (drop i text) ≡ drop i text
whole_rest text i = grind (arith, common_steps)

-- what an empty rest says of the words
pub ends : (text : List ℕ) → MatchBool (eqb (length text) 0) (words_after text ≡ []) ((w : List ℕ) × (ws : List (List ℕ)) × (words_after text ≡ w ∷ ws))
ends [] = refl
ends (c ∷ text) = rw eqb-suc-zero (some_word text)
