-- Each step of a sum can be undone, so a change of one word stays in it.
use Rattle.std.proofs.Common.{◌≡◌, ◌≢◌, ℕ, zero, suc, ◌+◌, ◌*◌, ◌/◌, ◌%◌, ◌^◌, ◌<◌, ◌≤◌, List, length, get_or, refl, sym, ap, ◌∙◌, arith, inl, inr}
use Rattle.std.specs.Int.Bits.{bit_xor, xor_assoc, xor_self, xor_zero_r}
use Rattle.std.proofs.Math.Nat.{add-mul-mod_self_left}
use Rattle.std.proofs.lemmas.Nat.{xor_comm, xor_lt, xor_shr, mul-mod_first}
use Rattle.std.proofs.lemmas.Bool.{cases_lt}
use Rattle.gq_sum.specs.declared.TheConstants.{FACTOR}
use Rattle.gq_sum.specs.Sums.{word_at, product, sum_with, sum_after}
use Rattle.gq_sum.specs.Laws.{AreBytes, DifferInWord, ChangedWordsShow, NumbersShow}

-- ---- one step

xor_back : (a b : ℕ) → bit_xor (bit_xor a b) b ≡ a
xor_back a b = xor_assoc a b b ∙ ap (bit_xor a) (xor_self b) ∙ xor_zero_r a

-- what undoes a product: its product with the factor is one more than a multiple of 2 ^ 64
abbrev INVERSE : ℕ
INVERSE = 17428512612931826493

times_inverse : (x : ℕ) → x * FACTOR * INVERSE ≡ x + 2 ^ 64 * (x * 10771413168148108919)
times_inverse x = omega arith

product_back : (x : ℕ) → x < 2 ^ 64 → (x * FACTOR % 2 ^ 64) * INVERSE % 2 ^ 64 ≡ x
product_back x fits =
    let small : x % 2 ^ 64 ≡ x = omega arith in
    mul-mod_first (x * FACTOR) INVERSE (2 ^ 64) ∙ ap (λ y. y % 2 ^ 64) (times_inverse x) ∙ add-mul-mod_self_left x (2 ^ 64) (x * 10771413168148108919) ∙ small

-- a number is known by its exclusive or with its own upper half
upper_half : (p : ℕ) → p < 2 ^ 64 → bit_xor p (p / 2 ^ 32) / 2 ^ 32 ≡ p / 2 ^ 32
upper_half p fits =
    let none : p / 2 ^ 32 / 2 ^ 32 ≡ 0 = omega arith in
    xor_shr p (p / 2 ^ 32) 32 ∙ ap (bit_xor (p / 2 ^ 32)) none ∙ xor_zero_r (p / 2 ^ 32)

same_halves : (p q : ℕ) → p < 2 ^ 64 → q < 2 ^ 64 → bit_xor p (p / 2 ^ 32) ≡ bit_xor q (q / 2 ^ 32) → p ≡ q
same_halves p q small low same =
    let half : p / 2 ^ 32 ≡ q / 2 ^ 32 = sym (upper_half p small) ∙ ap (λ y. y / 2 ^ 32) same ∙ upper_half q low in
    sym (xor_back p (p / 2 ^ 32)) ∙ ap (λ y. bit_xor y (p / 2 ^ 32)) same ∙ ap (bit_xor (bit_xor q (q / 2 ^ 32))) half ∙ xor_back q (q / 2 ^ 32)

product_fits : (s w : ℕ) → product s w < 2 ^ 64
product_fits s w = omega arith

same_mixed : (s t w v : ℕ) → bit_xor s w < 2 ^ 64 → bit_xor t v < 2 ^ 64 → sum_with s w ≡ sum_with t v → bit_xor s w ≡ bit_xor t v
same_mixed s t w v small low same =
    let products : product s w ≡ product t v = same_halves (product s w) (product t v) (product_fits s w) (product_fits t v) same in
    sym (product_back (bit_xor s w) small) ∙ ap (λ y. y * INVERSE % 2 ^ 64) products ∙ product_back (bit_xor t v) low

-- two words lead from one sum to two sums
same_word : (s w v : ℕ) → s < 2 ^ 64 → w < 2 ^ 64 → v < 2 ^ 64 → sum_with s w ≡ sum_with s v → w ≡ v
same_word s w v fits small low same =
    let mixed : bit_xor s w ≡ bit_xor s v = same_mixed s s w v (xor_lt 64 s w fits small) (xor_lt 64 s v fits low) same in
    sym (xor_back w s) ∙ ap (λ y. bit_xor y s) (xor_comm w s ∙ mixed ∙ xor_comm s v) ∙ xor_back v s

-- and two sums by one word
same_sum : (s t w : ℕ) → s < 2 ^ 64 → t < 2 ^ 64 → w < 2 ^ 64 → sum_with s w ≡ sum_with t w → s ≡ t
same_sum s t w small low fits same =
    sym (xor_back s w) ∙ ap (λ y. bit_xor y w) (same_mixed s t w w (xor_lt 64 s w small fits) (xor_lt 64 t w low fits) same) ∙ xor_back t w

-- ---- all steps

sum_fits : (s w : ℕ) → sum_with s w < 2 ^ 64
sum_fits s w = let fits = product_fits s w in xor_lt 64 (product s w) (product s w / 2 ^ 32) fits (omega arith)

sums_fit : (first : ℕ) (text : List ℕ) (count : ℕ) → first < 2 ^ 64 → sum_after first text count < 2 ^ 64
unfolding sum_after
sums_fit first text zero fits = fits
sums_fit first text (suc count) fits = sum_fits (sum_after first text count) (word_at text (8 * count))

word_fits : (text : List ℕ) (i : ℕ) → AreBytes text → word_at text i < 2 ^ 64
word_fits text i are =
    let a : get_or text i 0 < 256 = are i in
    let b : get_or text (i + 1) 0 < 256 = are (i + 1) in
    let c : get_or text (i + 2) 0 < 256 = are (i + 2) in
    let d : get_or text (i + 3) 0 < 256 = are (i + 3) in
    let e : get_or text (i + 4) 0 < 256 = are (i + 4) in
    let f : get_or text (i + 5) 0 < 256 = are (i + 5) in
    let g : get_or text (i + 6) 0 < 256 = are (i + 6) in
    let h : get_or text (i + 7) 0 < 256 = are (i + 7) in
    omega arith

-- up to the word that differs the sums are the same
same_before : (first i : ℕ) (text other : List ℕ) (count : ℕ) → DifferInWord i text other → count ≤ i → sum_after first other count ≡ sum_after first text count
unfolding sum_after
same_before first i text other zero differ low = refl
same_before first i text other (suc count) differ low =
    ap (λ s. sum_with s (word_at other (8 * count))) (same_before first i text other count differ (omega arith))
    ∙ ap (sum_with (sum_after first text count)) (differ.others count (λ e. omega (arith, e, low)))

-- and from then on they differ
other_after : (first i : ℕ) (text other : List ℕ) (count : ℕ) → first < 2 ^ 64 → AreBytes text → AreBytes other → DifferInWord i text other → i < count → sum_after first other count ≢ sum_after first text count
unfolding sum_after
other_after first i text other zero fits are also differ low = absurd (omega arith)
other_after first i text other (suc count) fits are also differ low = λ same.
    elim (cases_lt i count) [
      | inl later ↦
          let words : word_at other (8 * count) ≡ word_at text (8 * count) = differ.others count (λ e. omega (arith, e, later)) in
          let before = same_sum (sum_after first other count) (sum_after first text count) (word_at text (8 * count)) (sums_fit first other count fits) (sums_fit first text count fits) (word_fits text (8 * count) are)
          (ap (sum_with (sum_after first other count)) (sym words) ∙ same) in
          other_after first i text other count fits are also differ later before
      | inr now ↦
          let here : count ≡ i = omega (arith, now, low) in
          let sums = same_before first i text other count differ (omega (arith, here)) in
          let words : word_at other (8 * count) ≡ word_at text (8 * count) =
          same_word (sum_after first text count) (word_at other (8 * count)) (word_at text (8 * count)) (sums_fit first text count fits) (word_fits other (8 * count) also) (word_fits text (8 * count) are)
          (ap (λ s. sum_with s (word_at other (8 * count))) (sym sums) ∙ same) in
          differ.differs (ap (λ k. word_at other (8 * k)) (sym here) ∙ words ∙ ap (λ k. word_at text (8 * k)) here)
    ]

pub changed_words_show : ChangedWordsShow
changed_words_show n i text other are also differ = λ same.
    let first : ℕ = sum_with (sum_with 0 n) (length text) in
    other_after first i text other (length text / 8 + 1) (sum_fits (sum_with 0 n) (length text)) are also differ (omega (arith, differ.within))
    (ap (λ k. sum_after (sum_with (sum_with 0 n) k) other (k / 8 + 1)) (sym differ.long) ∙ same)

-- two first sums lead to two sums
same_first : (a b : ℕ) (text : List ℕ) (count : ℕ) → a < 2 ^ 64 → b < 2 ^ 64 → AreBytes text → sum_after a text count ≡ sum_after b text count → a ≡ b
unfolding sum_after
same_first a b text zero small low are same = same
same_first a b text (suc count) small low are same =
    same_first a b text count small low are
    (same_sum (sum_after a text count) (sum_after b text count) (word_at text (8 * count)) (sums_fit a text count small) (sums_fit b text count low) (word_fits text (8 * count) are) same)

pub numbers_show : NumbersShow
numbers_show n m text small low long are other = λ same.
    let firsts = same_first (sum_with (sum_with 0 n) (length text)) (sum_with (sum_with 0 m) (length text)) text (length text / 8 + 1) (sum_fits (sum_with 0 n) (length text)) (sum_fits (sum_with 0 m) (length text)) are same in
    let begun = same_sum (sum_with 0 n) (sum_with 0 m) (length text) (sum_fits 0 n) (sum_fits 0 m) long firsts in
    other (same_word 0 n m (omega arith) small low begun)
