-- Lanes of digits: their values, whether all are digits, and the bytes of their pairs.
use Rattle.std.proofs.Common.{◌≡◌, ℕ, zero, suc, ◌+◌, ◌-◌, ◌*◌, ◌%◌, ◌^◌, ◌<◌, Bool, true, false, not, ◌&&◌, cond, eqb, leb, ltb, List, [], ◌∷◌, ◌++◌, length, get_or, map, replicate, bit_or, refl, sym, ap, ◌∙◌, arith, inl, inr}
use Rattle.std.specs.Prelude.{nat_lt}
use Rattle.std.specs.List.{list_all}
use Rattle.std.proofs.lemmas.Bool.{and_parts, cases_lt, eqb-true, ltb-true}
use Rattle.std.proofs.lemmas.Bool.Decides.{nat_tests}
use Rattle.std.proofs.lemmas.Simd.{mask_l-mod, length-zip2}
use Rattle.std.proofs.lemmas.List.{length-map}
use lib.Lanes.{zip2, sel_l, mask_l, top, Each1}
use Rattle.gq_lines.specs.Digits.{value_or_more, pairs_joined}

-- ---- values

abbrev less : ℕ → ℕ → ℕ
less a b = (a + (256 - b)) % 256

abbrev more : ℕ → ℕ → ℕ
more a b = (a + b) % 256

abbrev below : ℕ → ℕ → ℕ
below a b = cond (ltb a b) 255 0

-- the value of one lane
abbrev lane_value : ℕ → ℕ
lane_value c = cond (ltb (less c 48) 10) (less c 48) (cond (ltb (less (bit_or c 32) 97) 6) (more (less (bit_or c 32) 97) 10) 255)

-- the test of the first n bytes, which computes
abbrev all_right : ℕ → Bool
all_right zero = true
all_right (suc n) = eqb (lane_value n) (value_or_more n) && all_right n

all_right-at : (n k : ℕ) → all_right n ≡ true → k < n → eqb (lane_value k) (value_or_more k) ≡ true
all_right-at zero k h lt = absurd (omega arith)
all_right-at (suc n) k h lt =
    let parts = and_parts (eqb (lane_value n) (value_or_more n)) (all_right n) h in
    elim (cases_lt k n) [
      | inl low ↦ all_right-at n k parts.1 low
      | inr high ↦
          let e : k ≡ n = omega arith in
          rw e parts.0
    ]

lane_right : (c : ℕ) → c < 256 → lane_value c ≡ value_or_more c
lane_right c h = eqb-true (lane_value c) (value_or_more c) (all_right-at 256 c refl h)

top_of : (b : Bool) → top 7 (cond b 255 0) ≡ b
top_of true = refl
top_of false = refl

pub values_are : (n : ℕ) (xs : List ℕ) → length xs ≡ n → Each1 (λ x. x < 256) xs
    → sel_l (map (top 7) (zip2 below (zip2 less xs (replicate n 48)) (replicate n 10))) (zip2 less xs (replicate n 48))
    (sel_l (map (top 7) (zip2 below (zip2 less (zip2 bit_or xs (replicate n 32)) (replicate n 97)) (replicate n 6)))
    (zip2 more (zip2 less (zip2 bit_or xs (replicate n 32)) (replicate n 97)) (replicate n 10)) (replicate n 255))
    ≡ map value_or_more xs
values_are zero [] e h = refl
values_are zero (x ∷ xs) e h = absurd (omega arith)
values_are (suc n) [] e h = absurd (omega arith)
values_are (suc n) (x ∷ xs) e h =
    let rest = values_are n xs (omega arith) h.1 in
    let first : cond (top 7 (below (less x 48) 10)) (less x 48) (cond (top 7 (below (less (bit_or x 32) 97) 6)) (more (less (bit_or x 32) 97) 10) 255) ≡ value_or_more x =
    rw (top_of (ltb (less x 48) 10), top_of (ltb (less (bit_or x 32) 97) 6)) (lane_right x h.0) in
    (λ i. first i ∷ rest i)

-- ---- whether all are digits

no_bit : (b : Bool) (m : ℕ) (all one : Bool) → eqb m 0 ≡ all → not b ≡ one → eqb (cond (top 7 (cond b 255 0)) 1 0 + 2 * m) 0 ≡ (one && all)
no_bit true m all one e f = rw (← f) (grind (arith, nat_tests))
no_bit false zero all one e f = rw (← f) e
no_bit false (suc m) all one e f = rw (← f, ← e) (grind (arith, nat_tests))

not_less : (x : ℕ) → not (leb 16 x) ≡ nat_lt x 16
not_less x = grind (arith, nat_tests)

masked : (n : ℕ) (xs : List ℕ) → length xs ≡ n → eqb (mask_l (map (top 7) (zip2 (λ a b. cond (leb a b) 255 0) (replicate n 16) xs))) 0 ≡ list_all (λ v. nat_lt v 16) xs
masked zero [] e = refl
masked zero (x ∷ xs) e = absurd (omega arith)
masked (suc n) [] e = absurd (omega arith)
masked (suc n) (x ∷ xs) e = no_bit (leb 16 x) _ _ (nat_lt x 16) (masked n xs (omega arith)) (not_less x)

pub all_digits : (xs : List ℕ) → length xs ≡ 32 → eqb (mask_l (map (top 7) (zip2 (λ a b. cond (leb a b) 255 0) (replicate 32 16) xs)) % 2 ^ 64) 0 ≡ list_all (λ v. nat_lt v 16) xs
all_digits xs e =
    let ms : List Bool = map (top 7) (zip2 (λ a b. cond (leb a b) 255 0) (replicate 32 16) xs) in
    let long : length ms ≡ 32 = length-map (zip2 (λ a b. cond (leb a b) 255 0) (replicate 32 16) xs) (top 7) ∙ length-zip2 (λ a b. cond (leb a b) 255 0) (replicate 32 16) xs (sym e) in
    ap (λ m. eqb m 0) (mask_l-mod ms 64 (omega arith)) ∙ masked 32 xs e

-- ---- pairs

-- the bytes of n pairs of values, from place k on
abbrev pub joined_from : List ℕ → ℕ → ℕ → List ℕ
joined_from xs zero k = []
joined_from xs (suc n) k = ((get_or xs k 0 * 16) % 256 + get_or xs (k + 1) 0) % 256 ∷ joined_from xs n (k + 2)

-- behind values that come before
joined_later : (a b : ℕ) (xs : List ℕ) (n k : ℕ) → joined_from (a ∷ b ∷ xs) n (k + 2) ≡ joined_from xs n k
joined_later a b xs zero k = refl
joined_later a b xs (suc n) k =
    let two : k + 2 ≡ suc (suc k) = omega arith in
    let three : k + 2 + 1 ≡ suc (suc (k + 1)) = omega arith in
    let first : ((get_or (a ∷ b ∷ xs) (k + 2) 0 * 16) % 256 + get_or (a ∷ b ∷ xs) (k + 2 + 1) 0) % 256 ≡ ((get_or xs k 0 * 16) % 256 + get_or xs (k + 1) 0) % 256 = rw (three, two) refl in
    let rest = joined_later a b xs n (k + 2) in
    (λ i. first i ∷ rest i)

pub joined_is : (n : ℕ) (xs ys : List ℕ) → length xs ≡ 2 * n → list_all (λ v. nat_lt v 16) xs ≡ true → joined_from (xs ++ ys) n 0 ≡ pairs_joined xs
joined_is zero [] ys e h = refl
joined_is zero (a ∷ xs) ys e h = absurd (omega arith)
joined_is (suc n) [] ys e h = absurd (omega arith)
joined_is (suc n) (a ∷ []) ys e h = absurd (omega arith)
joined_is (suc n) (a ∷ b ∷ xs) ys e h =
    let one = and_parts (nat_lt a 16) _ h in
    let two = and_parts (nat_lt b 16) _ one.1 in
    let high : a < 16 = ltb-true a 16 one.0 in
    let low : b < 16 = ltb-true b 16 two.0 in
    let first : ((a * 16) % 256 + b) % 256 ≡ a * 16 + b = omega arith in
    let rest = joined_later a b (xs ++ ys) n 0 ∙ joined_is n xs ys (omega arith) two.1 in
    (λ i. first i ∷ rest i)
