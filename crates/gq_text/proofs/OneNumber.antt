-- A text that is one number.
use Rattle.std.proofs.Common.{◌≡◌, ◌∙◌, ℕ, ◌+◌, ◌-◌, ◌*◌, List, [], ◌∷◌, ◌++◌, Option, None, Bool, true, false, cond, refl, sym, ap}
use Rattle.std.specs.Prelude.{codes, ◌==◌, ◌&&◌, nat_le}
use Rattle.std.specs.List.{onto_first}
use Rattle.std.proofs.lemmas.Bool.{eqb-true}
use Rattle.gq_lines.specs.declared.words.TheConstants.{MOST_NUMBER}
use Rattle.gq_model.specs.declared.events.Line.TheVariants.{Deliver, Lose}
use Rattle.gq_lines.specs.Words.{Word, words_of, words_after, is_digit, number_of, number_up_to, number_after}
use Rattle.gq_text.specs.Input.{one_number_of, line_from, line_of}
use Rattle.gq_lines.proofs.WordsLemmas.{some_word}

-- what the one word gives
abbrev sole : List Word → (Word → Option ℕ) → Option ℕ
sole [] f = None
sole (w ∷ []) f = f w
sole (w ∷ v ∷ ws) f = None

never : (b : Bool) (x : Option ℕ) → x ≡ None → cond b x None ≡ None
never true x is = is
never false x is = refl

-- one digit before the words
abbrev fits : ℕ → ℕ → Bool
fits n c = is_digit c && nat_le (n * 10 + (c - 48)) MOST_NUMBER

digit_before : (n c : ℕ) (text : List ℕ) (words : List Word) → (w : Word) × (ws : List Word) × (words ≡ w ∷ ws) → number_after MOST_NUMBER (n * 10 + (c - 48)) text ≡ sole words (number_after MOST_NUMBER (n * 10 + (c - 48)))
    → cond (fits n c) (number_after MOST_NUMBER (n * 10 + (c - 48)) text) None ≡ sole (onto_first c words) (number_after MOST_NUMBER n)
digit_before n c text [] some is = absurd (none some.2)
  where
    none : [] ≡ some.0 ∷ some.1 → ⊥
    none e = cc
digit_before n c text (w ∷ []) some is = ap (λ o. cond (fits n c) o None) is
digit_before n c text (w ∷ v ∷ ws) some is = never (fits n c) _ is

space_before : (n : ℕ) (text : List ℕ) (words : List Word) → (w : Word) × (ws : List Word) × (words ≡ w ∷ ws) → sole ([] ∷ words) (number_after MOST_NUMBER n) ≡ None
space_before n text [] some = absurd (none some.2)
  where
    none : [] ≡ some.0 ∷ some.1 → ⊥
    none e = cc
space_before n text (w ∷ ws) some = refl

-- digits of a text with a space are none
after_whole : (n : ℕ) (text : List ℕ) → number_after MOST_NUMBER n text ≡ sole (words_of text) (number_after MOST_NUMBER n)
after_whole n [] = refl
after_whole n (c ∷ text) = by (c == 32) refl (after_whole (n * 10 + (c - 48)) text)
  where
    by : (b : Bool) → (c == 32) ≡ b → number_after MOST_NUMBER (n * 10 + (c - 48)) text ≡ sole (words_of text) (number_after MOST_NUMBER (n * 10 + (c - 48)))
        → cond (fits n c) (number_after MOST_NUMBER (n * 10 + (c - 48)) text) None ≡ sole (cond b ([] ∷ words_of text) (onto_first c (words_of text))) (number_after MOST_NUMBER n)
    by true space later =
        let same : c ≡ 32 = eqb-true c 32 space in
        rw same (sym (space_before n text (words_of text) (some_word text)))
    by false space later = digit_before n c text (words_of text) (some_word text) later

-- two digits of which the first is zero
zero_first : (d : ℕ) (words : List Word) → (w : Word) × (ws : List Word) × (words ≡ w ∷ ws) → (b : Bool) → sole (onto_first 48 (cond b ([] ∷ words) (onto_first d words))) number_of ≡ None
unfolding number_up_to
zero_first d [] some b = absurd (none some.2)
  where
    none : [] ≡ some.0 ∷ some.1 → ⊥
    none e = cc
zero_first d (w ∷ ws) some true = refl
zero_first d (w ∷ []) some false = refl
zero_first d (w ∷ v ∷ ws) some false = refl

-- a word that begins with no zero
plain : (c : ℕ) (w : Word) → (c == 48) ≡ false → number_of (c ∷ w) ≡ number_after MOST_NUMBER 0 (c ∷ w)
unfolding number_up_to
plain c [] other = refl
plain c (d ∷ w) other = rw other refl

plain_first : (c : ℕ) (words : List Word) → (w : Word) × (ws : List Word) × (words ≡ w ∷ ws) → (c == 48) ≡ false → sole (onto_first c words) (number_after MOST_NUMBER 0) ≡ sole (onto_first c words) number_of
plain_first c [] some other = absurd (none some.2)
  where
    none : [] ≡ some.0 ∷ some.1 → ⊥
    none e = cc
plain_first c (w ∷ []) some other = sym (plain c w other)
plain_first c (w ∷ v ∷ ws) some other = refl

sole_number : (words : List Word) → one_number_of words ≡ sole words number_of
unfolding one_number_of
sole_number [] = refl
sole_number (w ∷ []) = refl
sole_number (w ∷ v ∷ ws) = refl

-- two bytes or more
two_whole : (c d : ℕ) (text : List ℕ) → number_of (c ∷ d ∷ text) ≡ sole (words_of (c ∷ d ∷ text)) number_of
unfolding number_up_to
two_whole c d text = by (c == 48) refl
  where
    by : (b : Bool) → (c == 48) ≡ b → cond b None (number_after MOST_NUMBER 0 (c ∷ d ∷ text)) ≡ sole (words_of (c ∷ d ∷ text)) number_of
    by true zero =
        let same : c ≡ 48 = eqb-true c 48 zero in
        rw same (sym (zero_first d (words_of text) (some_word text) (d == 32)))
    by false other = after_whole 0 (c ∷ d ∷ text) ∙ space (c == 32)
      where
        space : (b : Bool) → sole (cond b ([] ∷ words_of (d ∷ text)) (onto_first c (words_of (d ∷ text)))) (number_after MOST_NUMBER 0) ≡ sole (cond b ([] ∷ words_of (d ∷ text)) (onto_first c (words_of (d ∷ text)))) number_of
        space true = several (words_of (d ∷ text)) (some_word (d ∷ text))
          where
            several : (words : List Word) → (w : Word) × (ws : List Word) × (words ≡ w ∷ ws) → sole ([] ∷ words) (number_after MOST_NUMBER 0) ≡ sole ([] ∷ words) number_of
            several [] some = absurd (none some.2)
              where
                none : [] ≡ some.0 ∷ some.1 → ⊥
                none e = cc
            several (w ∷ ws) some = refl
        space false = plain_first c (words_of (d ∷ text)) (some_word (d ∷ text)) other

one_whole : (c : ℕ) → number_of (c ∷ []) ≡ sole (words_of (c ∷ [])) number_of
unfolding number_up_to
one_whole c = by (c == 32) refl
  where
    by : (b : Bool) → (c == 32) ≡ b → number_after MOST_NUMBER 0 (c ∷ []) ≡ sole (cond b ([] ∷ [] ∷ []) ((c ∷ []) ∷ [])) number_of
    by true space = let same : c ≡ 32 = eqb-true c 32 space in rw same refl
    by false other = refl

none_whole : number_of [] ≡ None
unfolding number_up_to
none_whole = refl

-- the number of a text is that of its words, if they are one number
pub one_number_whole : (text : List ℕ) → number_of text ≡ one_number_of (words_of text)
one_number_whole [] = sym (sole_number (words_of []))
one_number_whole (c ∷ []) = one_whole c ∙ sym (sole_number (words_of (c ∷ [])))
one_number_whole (c ∷ d ∷ text) = two_whole c d text ∙ sym (sole_number (words_of (c ∷ d ∷ text)))

-- lines of one number
pub delivered : (text word : List ℕ) (n : Option ℕ) → text ≡ codes " deliver " ++ word → n ≡ number_of word → line_from n (λ n. Deliver n) ≡ line_of (words_after text)
unfolding line_of
delivered text word n is number =
    ap (λ o. line_from o (λ n. Deliver n)) (number ∙ one_number_whole word) ∙ sym (rw is refl)

pub lost : (text word : List ℕ) (n : Option ℕ) → text ≡ codes " lose " ++ word → n ≡ number_of word → line_from n (λ n. Lose n) ≡ line_of (words_after text)
unfolding line_of
lost text word n is number =
    ap (λ o. line_from o (λ n. Lose n)) (number ∙ one_number_whole word) ∙ sym (rw is refl)
