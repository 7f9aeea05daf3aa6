-- What hex reads and writes is what the word of a content says.
use Rattle.std.proofs.Common.{◌≡◌, ◌∙◌, ℕ, suc, ◌/◌, ◌%◌, ◌<◌, List, [], ◌∷◌, ◌++◌, append_assoc, append-nil, arith, length, slice_index, ap, sym, eqb, Bool, true, false, Some, None, Result, Ok, Err, refl, subst}
use Rattle.std.specs.Prelude.{codes, ◌==◌, ◌&&◌, IsErr}
use Rattle.std.specs.Str.{bytes_eq}
use Rattle.std.proofs.Math.Dec.{eqb-suc-zero}
use Rattle.std.proofs.lemmas.Bool.{ne_eqb}
use Rattle.hex.specs.declared.error.FromHexError.{FromHexError}
use Rattle.hex.specs.Hex.{IsBytes, decode_of, encode_with, encode_lower, lower_digits, hex_digit_value}
use Rattle.hex.proofs.HexLemmas.{IsDigits-lower_digits, decode_of-encode_lower}
use Rattle.gq_escape.proofs.Escaping.{bytes_read_back}
use Rattle.gq_lines.specs.Written.{bytes_word, content_word}
use Rattle.gq_lines.specs.Words.{bytes_from, content_in_digits, content_of}

-- a word that is neither `-` nor empty
pub content_digits : (word : List ℕ) → bytes_eq word (codes "-") ≡ false → eqb (length word) 0 ≡ false → content_in_digits word ≡ bytes_from (decode_of word)
unfolding content_in_digits
content_digits word dash empty = rw (dash, empty) refl

pub no_bytes : (read : Result (List ℕ) FromHexError) → IsErr read → bytes_from read ≡ None
no_bytes (Ok bytes) is = absurd (cc is)
no_bytes (Err fault) is = refl

and_false : (b : Bool) → (b && false) ≡ false
and_false true = refl
and_false false = refl

dash_differs : (b : ℕ) (bytes : List ℕ) → bytes_eq (encode_lower (b ∷ bytes)) (codes "-") ≡ false
unfolding encode_with
dash_differs b bytes = and_false _

not_empty : (b : ℕ) (bytes : List ℕ) → eqb (length (encode_lower (b ∷ bytes))) 0 ≡ false
unfolding encode_with
not_empty b bytes = eqb-suc-zero (suc (length (encode_with lower_digits bytes)))

digits_back : (b : ℕ) (bytes : List ℕ) → IsBytes (b ∷ bytes) → content_in_digits (encode_lower (b ∷ bytes)) ≡ Some (b ∷ bytes)
unfolding content_in_digits
digits_back b bytes fits = rw (dash_differs b bytes, not_empty b bytes, decode_of-encode_lower (b ∷ bytes) fits) refl

-- no digit is `=`: it has a value as a digit
none_is : (d : ℕ) → None ≡ Some d → ⊥
none_is d is = cc

digit_marks_not : (d : ℕ) → d < 16 → (slice_index lower_digits d == 61) ≡ false
digit_marks_not d small = ne_eqb (slice_index lower_digits d) 61 (λ e. none_is d (subst (λ c. hex_digit_value c ≡ Some d) e (IsDigits-lower_digits d small)))

-- the word of a content is read as that content
pub content_back : (bytes : List ℕ) → IsBytes bytes → content_of (content_word bytes) ≡ Some bytes
unfolding content_in_digits encode_with
content_back [] fits = refl
content_back (b ∷ bytes) fits =
    let byte : b < 256 = fits 0 in
    rw (digit_marks_not (b / 16) (omega arith)) (digits_back b bytes fits)

-- and so is the word of its bytes
pub bytes_back : (bytes : List ℕ) → content_of (bytes_word bytes) ≡ Some bytes
unfolding content_in_digits
bytes_back [] = refl
bytes_back (b ∷ bytes) = bytes_read_back (b ∷ bytes)

-- the digits of bytes, one block after another
pub encode-append : (xs ys : List ℕ) → encode_lower (xs ++ ys) ≡ encode_lower xs ++ encode_lower ys
unfolding encode_with
encode-append [] ys = refl
encode-append (b ∷ xs) ys = ap (λ ds. slice_index lower_digits (b / 16) ∷ slice_index lower_digits (b % 16) ∷ ds) (encode-append xs ys)

-- one block more is written
pub block_more : (old mid new all block rest after : List ℕ) → mid ++ encode_lower rest ≡ old ++ encode_lower all → new ≡ mid ++ encode_lower block → rest ≡ block ++ after → new ++ encode_lower after ≡ old ++ encode_lower all
block_more old mid new all block rest after before now is =
    ap (λ x. x ++ encode_lower after) now
    ∙ append_assoc mid (encode_lower block) (encode_lower after)
    ∙ ap (λ x. mid ++ x) (sym (ap encode_lower is ∙ encode-append block after))
    ∙ before

-- no byte is left
pub all_written : (old mid all rest : List ℕ) → mid ++ encode_lower rest ≡ old ++ encode_lower all → length rest ≡ 0 → mid ≡ old ++ encode_lower all
unfolding encode_with
all_written old mid all [] is none = sym (append-nil mid) ∙ is
all_written old mid all (c ∷ rest) is none = absurd (omega arith)
