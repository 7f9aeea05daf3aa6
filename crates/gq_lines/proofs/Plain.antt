-- Words without a space or a newline.
use Rattle.std.proofs.Common.{◌≡◌, ℕ, suc, ◌+◌, ◌/◌, ◌%◌, ◌^◌, ◌<◌, List, [], ◌∷◌, ◌++◌, slice_index, Some, None, Bool, true, false, refl, sym, ◌∙◌, arith, inl, inr}
use Rattle.std.specs.Prelude.{decimal, nat_le, ◌==◌, ◌&&◌, not}
use Rattle.std.specs.List.{list_all}
use Rattle.std.proofs.lemmas.Bool.{and_parts, lt-leb, leb-true, ne_eqb, cases_lt}
use Rattle.std.proofs.lemmas.Fmt.{decimal_by_steps}
use Rattle.std.proofs.lemmas.List.Folds.{list_all-append}
use Rattle.hex.specs.Hex.{IsBytes, encode_with, lower_digits, hex_digit_value}
use Rattle.hex.proofs.HexLemmas.{IsDigits-lower_digits}
use Rattle.gq_escape.proofs.Escaping.{bytes_are_a_word}
use Rattle.gq_lines.specs.Words.{Word}
use Rattle.gq_lines.specs.Written.{bytes_word, content_word, spaced}

-- the byte is no newline and no space
abbrev pub is_plain_byte : ℕ → Bool
is_plain_byte c = not (c == 10) && not (c == 32)

-- no byte of the word is one
abbrev pub is_plain : Word → Bool
is_plain word = list_all is_plain_byte word

abbrev pub are_plain : List Word → Bool
are_plain words = list_all is_plain words

-- the byte is no newline
abbrev pub is_inner_byte : ℕ → Bool
is_inner_byte c = not (c == 10)

-- no byte of the line is one
abbrev pub is_inner : List ℕ → Bool
is_inner line = list_all is_inner_byte line

-- a word with one byte more that is above the space
pub plain-cons : (c : ℕ) (word : Word) → 32 < c → is_plain word ≡ true → is_plain (c ∷ word) ≡ true
plain-cons c word big plain = rw (ne_eqb c 10 (λ e. omega (arith, big)), ne_eqb c 32 (λ e. omega (arith, big))) plain

not_true : (b : Bool) → not b ≡ true → b ≡ false
not_true true h = sym h
not_true false h = refl

-- the parts of a plain word
pub plain_parts : (c : ℕ) (word : Word) → is_plain (c ∷ word) ≡ true → (((c == 10) ≡ false) × ((c == 32) ≡ false)) × (is_plain word ≡ true)
plain_parts c word plain =
    let parts = and_parts (is_plain_byte c) (is_plain word) plain in
    let own = and_parts (not (c == 10)) (not (c == 32)) parts.0 in
    ((not_true (c == 10) own.0, not_true (c == 32) own.1), parts.1)

-- the parts of a line without a newline
pub inner_parts : (c : ℕ) (line : List ℕ) → is_inner (c ∷ line) ≡ true → ((c == 10) ≡ false) × (is_inner line ≡ true)
inner_parts c line inner =
    let parts = and_parts (is_inner_byte c) (is_inner line) inner in
    (not_true (c == 10) parts.0, parts.1)

pub long_plain : (n : ℕ) → n < 2 ^ 64 → is_plain (decimal n) ≡ true
long_plain n fits = decimal_by_steps (λ m ds. is_plain ds ≡ true)
    (λ m small. plain-cons (48 + m) [] (omega arith) refl)
    (λ m ds ten before. rw (list_all-append is_plain_byte ds ((48 + m % 10) ∷ []), before) (plain-cons (48 + m % 10) [] (omega arith) refl))
    n fits

pub decimal_plain : (n : ℕ) → n < 2 ^ 32 → is_plain (decimal n) ≡ true
decimal_plain n fits = long_plain n (omega arith)

none_is : (d : ℕ) → None ≡ Some d → ⊥
none_is d is = cc

value_big : (c d : ℕ) → hex_digit_value c ≡ Some d → 32 < c
value_big c d is = elim (cases_lt 32 c) [
  | inl more ↦ more
  | inr less ↦ (
      let upper : nat_le 65 c ≡ false = lt-leb 65 c (omega arith) in
      let lower : nat_le 97 c ≡ false = lt-leb 97 c (omega arith) in
      let digit : nat_le 48 c ≡ false = lt-leb 48 c (omega arith) in
      let none : hex_digit_value c ≡ None = rw (upper, lower, digit) refl in
      absurd (none_is d (sym none ∙ is)))
]

digit_big : (d : ℕ) → d < 16 → 32 < slice_index lower_digits d
digit_big d small = value_big (slice_index lower_digits d) d (IsDigits-lower_digits d small)

digits_plain : (bytes : List ℕ) → IsBytes bytes → is_plain (encode_with lower_digits bytes) ≡ true
unfolding encode_with
digits_plain [] fits = refl
digits_plain (b ∷ bytes) fits =
    let byte : b < 256 = fits 0 in
    plain-cons (slice_index lower_digits (b / 16)) (slice_index lower_digits (b % 16) ∷ encode_with lower_digits bytes) (digit_big (b / 16) (omega arith)) (plain-cons (slice_index lower_digits (b % 16)) (encode_with lower_digits bytes) (digit_big (b % 16) (omega arith)) (digits_plain bytes (λ i. fits (suc i))))

pub content_plain : (bytes : List ℕ) → IsBytes bytes → is_plain (content_word bytes) ≡ true
content_plain [] fits = refl
content_plain (b ∷ bytes) fits = digits_plain (b ∷ bytes) fits

pub bytes_plain : (bytes : List ℕ) → is_plain (bytes_word bytes) ≡ true
bytes_plain [] = refl
bytes_plain (b ∷ bytes) = bytes_are_a_word (b ∷ bytes)

inner_of_plain : (word : Word) → is_plain word ≡ true → is_inner word ≡ true
inner_of_plain [] plain = refl
inner_of_plain (c ∷ word) plain =
    let parts = plain_parts c word plain in
    rw (parts.0.0) (inner_of_plain word parts.1)

inner-append : (xs ys : List ℕ) → is_inner xs ≡ true → is_inner ys ≡ true → is_inner (xs ++ ys) ≡ true
inner-append xs ys left right = rw (list_all-append is_inner_byte xs ys, left) right

spaced_inner : (words : List Word) → are_plain words ≡ true → is_inner (spaced words) ≡ true
spaced_inner [] plain = refl
spaced_inner (word ∷ words) plain =
    let parts = and_parts (is_plain word) (are_plain words) plain in
    inner-append (32 ∷ word) (spaced words) (inner_of_plain word parts.0) (spaced_inner words parts.1)

-- no byte of a line of plain words is a newline
pub line_inner : (first : Word) (words : List Word) → is_plain first ≡ true → are_plain words ≡ true → is_inner (first ++ spaced words) ≡ true
line_inner first words one each = inner-append first (spaced words) (inner_of_plain first one) (spaced_inner words each)
