-- Contents are told apart.
use Rattle.std.proofs.Common.{◌≡◌, ◌⊎◌, ◌∙◌, ℕ, ◌*◌, ◌<◌, List, [], ◌∷◌, ◌++◌, Bool, true, false, inl, inr, codes, length, slice_index, refl, sym, ap, arith}
use Rattle.std.specs.Prelude.{if◌then◌else◌, nat_lt}
use Rattle.std.specs.List.{list_all}
use Rattle.std.specs.Str.{IsAscii}
use Rattle.std.proofs.lemmas.Bool.{and_parts, ltb-true}
use Rattle.std.proofs.lemmas.List.{append_cancel_left, append_cancel_right}
use Rattle.std.proofs.lemmas.Str.Ascii.{IsAscii-cons, IsAscii-nil}
use Rattle.hex.specs.Hex.{IsBytes, decode_of, encode_lower, lower_digits}
use Rattle.hex.proofs.HexLemmas.{IsAscii-encode_with, decode_of-encode_lower, decode_of-same, length-encode_with}
use Rattle.gq_svg.specs.Contents.{closing, content_text, is_text, opening, quoted}
use Rattle.gq_svg.specs.Escaping.{escaped, unescaped}
use Rattle.gq_svg.specs.Laws.{ContentsDiffer}
use Rattle.gq_svg.proofs.Reading.{is_read_back}

-- the same text between the marks
texts_same : (a b : List ℕ) → quoted a ≡ quoted b → a ≡ b
texts_same a b same =
    let marked = append_cancel_right (opening ++ escaped a) (opening ++ escaped b) closing same in
    let plain = append_cancel_left opening (escaped a) (escaped b) marked in
    sym (is_read_back a) ∙ (ap unescaped plain ∙ is_read_back b)

-- the same digits
bytes_same : (a b : List ℕ) → IsBytes a → IsBytes b → encode_lower a ≡ encode_lower b → a ≡ b
bytes_same a b of_a of_b same = decode_of-same (encode_lower b) a b (ap decode_of (sym same) ∙ decode_of-encode_lower a of_a) (decode_of-encode_lower b of_b)

ascii_of : (bytes : List ℕ) → list_all (λ b. nat_lt b 128) bytes ≡ true → IsAscii bytes
ascii_of [] is = IsAscii-nil
ascii_of (b ∷ bytes) is =
    let parts = and_parts (nat_lt b 128) (list_all (λ c. nat_lt c 128) bytes) is in
    IsAscii-cons b bytes (ltb-true b 128 parts.0) (ascii_of bytes parts.1)

-- a mark is no digit
apart : (a b : List ℕ) → quoted a ≡ encode_lower b → ⊥
apart a b same =
    let first : 226 ≡ slice_index (encode_lower b) 0 = ap (λ (t : List ℕ). slice_index t 0) same in
    let low : slice_index (encode_lower b) 0 < 128 = IsAscii-encode_with lower_digits b (ascii_of lower_digits refl) 0 in
    omega arith

no_text : (a : List ℕ) → codes "empty" ≡ quoted a → ⊥
no_text a same = let first : ◌≡◌ {A = ℕ} 101 226 = ap (λ (t : List ℕ). slice_index t 0) same in omega (arith, first)

-- digits are even in number
no_digits : (a : List ℕ) → codes "empty" ≡ encode_lower a → ⊥
no_digits a same = let even : ◌≡◌ {A = ℕ} 5 (2 * length a) = ap length same ∙ length-encode_with lower_digits a in omega arith

-- one of the two is told
told : (x : ℕ) (xs : List ℕ) → (content_text (x ∷ xs) ≡ quoted (x ∷ xs)) ⊎ (content_text (x ∷ xs) ≡ encode_lower (x ∷ xs))
told x xs = by (is_text (x ∷ xs)) refl
  where
    by : (b : Bool) → is_text (x ∷ xs) ≡ b → (content_text (x ∷ xs) ≡ quoted (x ∷ xs)) ⊎ (content_text (x ∷ xs) ≡ encode_lower (x ∷ xs))
    by true is = inl (ap (λ (b : Bool). if b then quoted (x ∷ xs) else encode_lower (x ∷ xs)) is)
    by false is = inr (ap (λ (b : Bool). if b then quoted (x ∷ xs) else encode_lower (x ∷ xs)) is)

pub contents_differ : ContentsDiffer
contents_differ [] [] of_one of_other same = refl
contents_differ [] (y ∷ ys) of_one of_other same = by (told y ys)
  where
    by : (content_text (y ∷ ys) ≡ quoted (y ∷ ys)) ⊎ (content_text (y ∷ ys) ≡ encode_lower (y ∷ ys)) → [] ≡ y ∷ ys
    by (inl is) = absurd (no_text (y ∷ ys) (same ∙ is))
    by (inr is) = absurd (no_digits (y ∷ ys) (same ∙ is))
contents_differ (x ∷ xs) [] of_one of_other same = by (told x xs)
  where
    by : (content_text (x ∷ xs) ≡ quoted (x ∷ xs)) ⊎ (content_text (x ∷ xs) ≡ encode_lower (x ∷ xs)) → x ∷ xs ≡ []
    by (inl is) = absurd (no_text (x ∷ xs) (sym same ∙ is))
    by (inr is) = absurd (no_digits (x ∷ xs) (sym same ∙ is))
contents_differ (x ∷ xs) (y ∷ ys) of_one of_other same = by (told x xs) (told y ys)
  where
    by : (content_text (x ∷ xs) ≡ quoted (x ∷ xs)) ⊎ (content_text (x ∷ xs) ≡ encode_lower (x ∷ xs)) → (content_text (y ∷ ys) ≡ quoted (y ∷ ys)) ⊎ (content_text (y ∷ ys) ≡ encode_lower (y ∷ ys)) → x ∷ xs ≡ y ∷ ys
    by (inl a) (inl b) = texts_same (x ∷ xs) (y ∷ ys) (sym a ∙ (same ∙ b))
    by (inl a) (inr b) = absurd (apart (x ∷ xs) (y ∷ ys) (sym a ∙ (same ∙ b)))
    by (inr a) (inl b) = absurd (apart (y ∷ ys) (x ∷ xs) (sym b ∙ (sym same ∙ a)))
    by (inr a) (inr b) = bytes_same (x ∷ xs) (y ∷ ys) of_one of_other (sym a ∙ (same ∙ b))
