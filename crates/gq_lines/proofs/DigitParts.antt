-- Decoding, one part after another.
use Rattle.std.proofs.Common.{◌≡◌, ℕ, zero, suc, ◌+◌, ◌*◌, ◌-◌, ◌<◌, ◌≤◌, ◌⊎◌, inl, inr, Bool, true, false, ◌&&◌, List, [], ◌∷◌, ◌++◌, length, take, drop, map, append-nil, Option, Some, None, Result, Ok, Err, refl, sym, ap, ◌∙◌, arith, add-zero, append_assoc}
use Rattle.std.specs.Prelude.{IsErr, nat_lt, unwrap_or, is_ok, MatchBool, MatchResult}
use Rattle.std.specs.List.{list_all}
use Rattle.std.proofs.lemmas.Bool.{and_parts, ltb-true}
use Rattle.std.proofs.lemmas.List.{length-map, length-drop, length-take-le, drop_all, take_all}
use Rattle.std.proofs.lemmas.Simd.{length-chunk, chunk-drop, length-put_chunk, take_more_put_chunk}
use lib.Lanes.{chunk, put_chunk}
use borrow.Rule.Slice.PartMut.{put_mid}
use Rattle.hex.specs.declared.error.FromHexError.{FromHexError}
use Rattle.hex.specs.Hex.{decode_of, decode_pairs, decode_sized, digit_or_error, hex_digit_value, pair_value, value_at, ◌>>=◌}
use Rattle.hex.proofs.Pairs.{prepend, cons_byte, decode_pairs-ok_pair, decode_pairs-err_pair}
use Rattle.hex.proofs.HexLemmas.{decode_of-even, decode_sized-twice}
use Rattle.gq_lines.specs.Digits.{value_or_more, pairs_joined}
use Rattle.gq_lines.specs.Words.{bytes_from}

-- ---- where the digits stand changes only what an error tells

shifted_pair : (o p : Option ℕ) (a b i j : ℕ) (r s : Result (List ℕ) FromHexError) → bytes_from r ≡ bytes_from s
    → bytes_from ((digit_or_error a i o >>= (λ h. digit_or_error b (i + 1) p >>= (λ l. Ok (h * 16 + l)))) >>= (λ byte. r >>= (λ bytes. Ok (byte ∷ bytes))))
    ≡ bytes_from ((digit_or_error a j o >>= (λ h. digit_or_error b (j + 1) p >>= (λ l. Ok (h * 16 + l)))) >>= (λ byte. s >>= (λ bytes. Ok (byte ∷ bytes))))
shifted_pair None p a b i j r s e = refl
shifted_pair (Some x) None a b i j r s e = refl
shifted_pair (Some x) (Some y) a b i j (Ok m) (Ok n) e = ap (λ o. Some ((x * 16 + y) ∷ unwrap_or o [])) e
shifted_pair (Some x) (Some y) a b i j (Ok m) (Err f) e = absurd (cc e)
shifted_pair (Some x) (Some y) a b i j (Err f) (Ok n) e = absurd (cc e)
shifted_pair (Some x) (Some y) a b i j (Err f) (Err g) e = refl

pub shifted : (i j : ℕ) (s : List ℕ) → bytes_from (decode_pairs i s) ≡ bytes_from (decode_pairs j s)
unfolding decode_pairs
shifted i j [] = refl
shifted i j (a ∷ []) = refl
shifted i j (a ∷ b ∷ rest) = shifted_pair (hex_digit_value a) (hex_digit_value b) a b i j (decode_pairs (i + 2) rest) (decode_pairs (j + 2) rest) (shifted (i + 2) (j + 2) rest)

-- ---- a part that is read

small_is : (o : Option ℕ) → unwrap_or o 255 < 16 → o ≡ Some (unwrap_or o 255)
small_is None h = absurd (omega arith)
small_is (Some v) h = refl

digit_read : (c i : ℕ) → nat_lt (value_or_more c) 16 ≡ true → value_at c i ≡ Ok (value_or_more c)
digit_read c i h = ap (digit_or_error c i) (small_is (hex_digit_value c) (ltb-true (value_or_more c) 16 h))

prepend-nil : (r : Result (List ℕ) FromHexError) → r ≡ prepend [] r
prepend-nil (Ok rest) = refl
prepend-nil (Err e) = refl

cons-prepend : (v : ℕ) (front : List ℕ) (r : Result (List ℕ) FromHexError) → cons_byte v (prepend front r) ≡ prepend (v ∷ front) r
cons-prepend v front (Ok rest) = refl
cons-prepend v front (Err e) = refl

pub part_read : (n : ℕ) (part rest : List ℕ) (i : ℕ) → length part ≡ 2 * n → list_all (λ v. nat_lt v 16) (map value_or_more part) ≡ true
    → decode_pairs i (part ++ rest) ≡ prepend (pairs_joined (map value_or_more part)) (decode_pairs (i + 2 * n) rest)
part_read zero [] rest i e h = rw add-zero (prepend-nil (decode_pairs i rest))
part_read zero (a ∷ part) rest i e h = absurd (omega arith)
part_read (suc n) [] rest i e h = absurd (omega arith)
part_read (suc n) (a ∷ []) rest i e h = absurd (omega arith)
part_read (suc n) (a ∷ b ∷ part) rest i e h =
    let one = and_parts (nat_lt (value_or_more a) 16) _ h in
    let two = and_parts (nat_lt (value_or_more b) 16) _ one.1 in
    let v : ℕ = value_or_more a * 16 + value_or_more b in
    let pair : pair_value a b i ≡ Ok v = rw (digit_read a i one.0, digit_read b (i + 1) two.0) refl in
    let behind : i + 2 + 2 * n ≡ i + 2 * suc n = omega arith in
    decode_pairs-ok_pair i a b v (part ++ rest) pair
    ∙ ap (cons_byte v) (part_read n part rest (i + 2) (omega arith) two.1 ∙ ap (λ k. prepend (pairs_joined (map value_or_more part)) (decode_pairs k rest)) behind)
    ∙ cons-prepend v (pairs_joined (map value_or_more part)) (decode_pairs (i + 2 * suc n) rest)

-- ---- a part that is not

and_fails : (a b : Bool) → (a && b) ≡ false → (a ≡ false) ⊎ ((a ≡ true) × (b ≡ false))
and_fails true b h = inr (refl, h)
and_fails false b h = inl refl

more_is : (o : Option ℕ) → nat_lt (unwrap_or o 255) 16 ≡ false → ((v : ℕ) → o ≡ Some v → v < 16) → o ≡ None
more_is None h small = refl
more_is (Some v) h small = absurd (let less : v < 16 = small v refl in grind arith)

value_small : (c v : ℕ) → hex_digit_value c ≡ Some v → v < 16
value_small c v h = grind (arith)

not_digit : (c i : ℕ) → nat_lt (value_or_more c) 16 ≡ false → (e : FromHexError) × (value_at c i ≡ Err e)
not_digit c i h = (_, ap (digit_or_error c i) (more_is (hex_digit_value c) h (value_small c)))

err_is : (r : Result (List ℕ) FromHexError) (e : FromHexError) → r ≡ Err e → IsErr r
err_is (Ok x) e h = absurd (cc h)
err_is (Err f) e h = refl

cons_err : (v : ℕ) (r : Result (List ℕ) FromHexError) → IsErr r → IsErr (cons_byte v r)
cons_err v (Ok x) h = absurd (cc h)
cons_err v (Err f) h = refl

by_digits : (r : Result ℕ FromHexError) (f : ℕ → Result ℕ FromHexError) (e : FromHexError) → r ≡ Err e → (r >>= f) ≡ Err e
by_digits (Ok x) f e h = absurd (cc h)
by_digits (Err g) f e h = cc

second_bad : (a b i : ℕ) (rest : List ℕ) → nat_lt (value_or_more a) 16 ≡ true → nat_lt (value_or_more b) 16 ≡ false → IsErr (decode_pairs i (a ∷ b ∷ rest))
second_bad a b i rest good bad =
    let low = not_digit b (i + 1) bad in
    let pair : pair_value a b i ≡ Err low.0 = rw (digit_read a i good, low.1) refl in
    err_is _ low.0 (decode_pairs-err_pair i a b low.0 rest pair)

first_bad : (a b i : ℕ) (rest : List ℕ) → nat_lt (value_or_more a) 16 ≡ false → IsErr (decode_pairs i (a ∷ b ∷ rest))
first_bad a b i rest bad =
    let high = not_digit a i bad in
    err_is _ high.0 (decode_pairs-err_pair i a b high.0 rest (by_digits (value_at a i) _ high.0 high.1))

rest_bad : (a b i : ℕ) (rest : List ℕ) → nat_lt (value_or_more a) 16 ≡ true → nat_lt (value_or_more b) 16 ≡ true → IsErr (decode_pairs (i + 2) rest) → IsErr (decode_pairs i (a ∷ b ∷ rest))
rest_bad a b i rest one two bad =
    let v : ℕ = value_or_more a * 16 + value_or_more b in
    let pair : pair_value a b i ≡ Ok v = rw (digit_read a i one, digit_read b (i + 1) two) refl in
    rw (decode_pairs-ok_pair i a b v rest pair) (cons_err v _ bad)

pub part_bad : (n : ℕ) (part rest : List ℕ) (i : ℕ) → length part ≡ 2 * n → list_all (λ v. nat_lt v 16) (map value_or_more part) ≡ false → IsErr (decode_pairs i (part ++ rest))
part_bad zero [] rest i e h = absurd (cc h)
part_bad zero (a ∷ part) rest i e h = absurd (omega arith)
part_bad (suc n) [] rest i e h = absurd (omega arith)
part_bad (suc n) (a ∷ []) rest i e h = absurd (omega arith)
part_bad (suc n) (a ∷ b ∷ part) rest i e h =
    elim (and_fails (nat_lt (value_or_more a) 16) _ h) [
      | inl bad ↦ first_bad a b i (part ++ rest) bad
      | inr more ↦
          elim (and_fails (nat_lt (value_or_more b) 16) _ more.1) [
            | inl bad ↦ second_bad a b i (part ++ rest) more.0 bad
            | inr less ↦ rest_bad a b i (part ++ rest) more.0 less.0 (part_bad n part rest (i + 2) (omega arith) less.1)
          ]
    ]

-- ---- the whole, as far as it is read

prepend_twice : (a b : List ℕ) (r : Result (List ℕ) FromHexError) → prepend a (prepend b r) ≡ prepend (a ++ b) r
prepend_twice a b (Ok rest) = ap Ok (sym (append_assoc a b rest))
prepend_twice a b (Err e) = refl

pub length-pairs_joined : (n : ℕ) (xs : List ℕ) → length xs ≡ 2 * n → length (pairs_joined xs) ≡ n
length-pairs_joined zero [] e = refl
length-pairs_joined zero (a ∷ xs) e = absurd (omega arith)
length-pairs_joined (suc n) [] e = absurd (omega arith)
length-pairs_joined (suc n) (a ∷ []) e = absurd (omega arith)
length-pairs_joined (suc n) (a ∷ b ∷ xs) e = let rest = length-pairs_joined n xs (omega arith) in omega arith

part_long : (s : List ℕ) (i : ℕ) → 2 * i + 32 ≤ length s → length (chunk (2 * i) 32 s) ≡ 32
part_long s i fits = length-chunk (2 * i) 32 s fits

cut : (s : List ℕ) (i : ℕ) → drop (2 * i) s ≡ chunk (2 * i) 32 s ++ drop (2 * (i + 16)) s
cut s i = let on : 2 * i + 32 ≡ 2 * (i + 16) = omega arith in chunk-drop (2 * i) 32 s ∙ ap (λ k. chunk (2 * i) 32 s ++ drop k s) on

pub lanes_read : (s out vs bytes : List ℕ) (i : ℕ) → 2 * i + 32 ≤ length s → i + 16 ≤ length out → vs ≡ map value_or_more (chunk (2 * i) 32 s) → list_all (λ v. nat_lt v 16) vs ≡ true → bytes ≡ pairs_joined vs
    → decode_pairs 0 s ≡ prepend (take i out) (decode_pairs (2 * i) (drop (2 * i) s))
    → (length (put_chunk i out bytes) ≡ length out) × (decode_pairs 0 s ≡ prepend (take (i + 16) (put_chunk i out bytes)) (decode_pairs (2 * (i + 16)) (drop (2 * (i + 16)) s)))
lanes_read s out vs bytes i fits room values good pairs before =
    let part : List ℕ = chunk (2 * i) 32 s in
    let rest : List ℕ = drop (2 * (i + 16)) s in
    let long : length bytes ≡ 16 = ap length pairs ∙ length-pairs_joined 16 vs (ap length values ∙ length-map part value_or_more ∙ part_long s i fits) in
    let on : 2 * i + 2 * 16 ≡ 2 * (i + 16) = omega arith in
    let read : decode_pairs (2 * i) (drop (2 * i) s) ≡ prepend bytes (decode_pairs (2 * (i + 16)) rest) =
    ap (decode_pairs (2 * i)) (cut s i) ∙ part_read 16 part rest (2 * i) (part_long s i fits) (ap (list_all (λ v. nat_lt v 16)) (sym values) ∙ good)
    ∙ (λ j. prepend ((ap pairs_joined (sym values) ∙ sym pairs) j) (decode_pairs (on j) rest)) in
    let written : take (i + 16) (put_chunk i out bytes) ≡ take i out ++ bytes = take_more_put_chunk i out bytes (i + 16) (omega arith) (omega arith) in
    (length-put_chunk i out bytes, before ∙ ap (prepend (take i out)) read ∙ prepend_twice (take i out) bytes _ ∙ ap (λ front. prepend front (decode_pairs (2 * (i + 16)) rest)) (sym written))

bytes_none : (r : Result (List ℕ) FromHexError) → IsErr r → bytes_from r ≡ None
bytes_none (Ok bytes) h = absurd (cc h)
bytes_none (Err e) h = refl

prepend_err : (front : List ℕ) (r : Result (List ℕ) FromHexError) → IsErr r → IsErr (prepend front r)
prepend_err front (Ok bytes) h = absurd (cc h)
prepend_err front (Err e) h = refl

even : (s : List ℕ) (n : ℕ) → length s ≡ 2 * n → decode_of s ≡ decode_pairs 0 s
even s n e = decode_of-even s (omega arith)

pub lanes_bad : (s out vs : List ℕ) (i n : ℕ) → length s ≡ 2 * n → 2 * i + 32 ≤ length s → vs ≡ map value_or_more (chunk (2 * i) 32 s) → list_all (λ v. nat_lt v 16) vs ≡ false
    → decode_pairs 0 s ≡ prepend (take i out) (decode_pairs (2 * i) (drop (2 * i) s)) → bytes_from (decode_of s) ≡ None
lanes_bad s out vs i n twice fits values bad before =
    let part : List ℕ = chunk (2 * i) 32 s in
    let fails : IsErr (decode_pairs (2 * i) (drop (2 * i) s)) = rw (cut s i) (part_bad 16 part (drop (2 * (i + 16)) s) (2 * i) (part_long s i fits) (ap (list_all (λ v. nat_lt v 16)) (sym values) ∙ bad)) in
    ap bytes_from (even s n twice) ∙ bytes_none (decode_pairs 0 s) (rw before (prepend_err (take i out) _ fails))

-- ---- what is left is read digit by digit

prepended : (front : List ℕ) (r t : Result (List ℕ) FromHexError) → bytes_from r ≡ bytes_from t → bytes_from (prepend front r) ≡ bytes_from (prepend front t)
prepended front (Ok x) (Ok y) e = ap (λ o. Some (front ++ unwrap_or o [])) e
prepended front (Ok x) (Err f) e = absurd (cc e)
prepended front (Err f) (Ok y) e = absurd (cc e)
prepended front (Err f) (Err g) e = refl

last_bytes : (out tail : List ℕ) (i : ℕ) → put_mid i (length out - i) out tail ≡ take i out ++ tail
last_bytes out tail i =
    let none : drop (length out - i) (drop i out) ≡ [] = drop_all (length out - i) (drop i out) (omega (arith, length-drop i out)) in
    ap (λ t. take i out ++ (tail ++ t)) none ∙ ap (λ t. take i out ++ t) (append-nil tail)

by_result : (d : Result (List ℕ) FromHexError) (q : Bool) (r : Result Unit FromHexError) (front tail : List ℕ) (whole : Option (List ℕ)) → whole ≡ bytes_from (prepend front d) → q ≡ is_ok r
    → MatchResult d (λ bytes. (r ≡ Ok tt) × (tail ≡ bytes)) (λ e. r ≡ Err e) → MatchBool q (whole ≡ Some (front ++ tail)) (whole ≡ None)
by_result (Ok bytes) q r front tail whole is ok h = rw (ok, h.0) (is ∙ ap (λ t. Some (front ++ t)) (sym h.1))
by_result (Err e) q r front tail whole is ok h = rw (ok, h) is

pub rest_read : (s out tail : List ℕ) (i : ℕ) (q : Bool) (r : Result Unit FromHexError) → length s ≡ 2 * length out → i ≤ length out
    → decode_pairs 0 s ≡ prepend (take i out) (decode_pairs (2 * i) (drop (2 * i) s)) → q ≡ is_ok r
    → MatchResult (decode_sized (take (length s - 2 * i) (drop (2 * i) s)) (length (take (length out - i) (drop i out)))) (λ bytes. (r ≡ Ok tt) × (tail ≡ bytes)) (λ e. r ≡ Err e)
    → MatchBool q (bytes_from (decode_of s) ≡ Some (put_mid i (length out - i) out tail)) (bytes_from (decode_of s) ≡ None)
rest_read s out tail i q r twice within before ok h =
    let rest : List ℕ = drop (2 * i) s in
    let long : length rest ≡ 2 * (length out - i) = omega (arith, length-drop (2 * i) s) in
    let whole : bytes_from (decode_of s) ≡ bytes_from (prepend (take i out) (decode_pairs 0 rest)) =
    ap bytes_from (even s (length out) twice ∙ before) ∙ prepended (take i out) (decode_pairs (2 * i) rest) (decode_pairs 0 rest) (shifted (2 * i) 0 rest) in
    let all : take (length s - 2 * i) rest ≡ rest = take_all (length s - 2 * i) rest (omega (arith, length-drop (2 * i) s)) in
    let room : length (take (length out - i) (drop i out)) ≡ length out - i = length-take-le (length out - i) (drop i out) (omega (arith, length-drop i out)) in
    let sized : decode_sized (take (length s - 2 * i) rest) (length (take (length out - i) (drop i out))) ≡ decode_pairs 0 rest =
    (λ j. decode_sized (all j) (room j)) ∙ decode_sized-twice rest (length out - i) long ∙ even rest (length out - i) long in
    rw (last_bytes out tail i) (by_result (decode_pairs 0 rest) q r (take i out) tail (bytes_from (decode_of s)) whole ok (rw sized at h))
