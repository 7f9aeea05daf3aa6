-- What is told of the numbers below one, and of one more.
use Rattle.std.proofs.Common.{◌≡◌, ◌∙◌, ℕ, zero, suc, ◌+◌, List, [], ◌∷◌, ◌++◌, map, refl, sym, ap, add-one, add-zero, zero-add, append-nil, append_assoc, arith}
use Rattle.std.specs.Prelude.{max, sum_by}
use Rattle.std.specs.List.{flat_map, range_with_len}
use Rattle.std.proofs.lemmas.List.{map-append}
use Rattle.std.proofs.lemmas.List.Concat.{flat_map-append}
use Rattle.std.proofs.lemmas.List.Sums.{sum_by-append}
use Rattle.gq_plan.specs.PlanWords.{greatest}

range_suc : (n from : ℕ) → range_with_len from (suc n) ≡ range_with_len from n ++ (from + n) ∷ []
range_suc zero from = rw add-zero refl
range_suc (suc n) from =
    let here : from + 1 + n ≡ from + suc n = omega arith in
    ap (λ xs. from ∷ xs) (range_suc n (from + 1) ∙ ap (λ m. range_with_len (from + 1) n ++ m ∷ []) here)

pub range_more : (n : ℕ) → range_with_len 0 (n + 1) ≡ range_with_len 0 n ++ n ∷ []
range_more n =
    let here : 0 + n ≡ n = omega arith in
    rw add-one (range_suc n 0 ∙ ap (λ m. range_with_len 0 n ++ m ∷ []) here)

-- the text of one more
pub text_more : (f : ℕ → List ℕ) (before out next : List ℕ) (n : ℕ) → out ≡ before ++ flat_map f (range_with_len 0 n) → next ≡ out ++ f n → next ≡ before ++ flat_map f (range_with_len 0 (n + 1))
text_more f before out next n done is =
    is
    ∙ ap (λ x. x ++ f n) done
    ∙ append_assoc before (flat_map f (range_with_len 0 n)) (f n)
    ∙ ap (λ x. before ++ (flat_map f (range_with_len 0 n) ++ x)) (sym (append-nil (f n)))
    ∙ ap (λ x. before ++ x) (sym (flat_map-append f (range_with_len 0 n) (n ∷ [])))
    ∙ ap (λ ns. before ++ flat_map f ns) (sym (range_more n))

-- the sum with one more
pub sum_more : (f : ℕ → ℕ) (n : ℕ) → sum_by f (range_with_len 0 (n + 1)) ≡ sum_by f (range_with_len 0 n) + f n
sum_more f n =
    ap (sum_by f) (range_more n) ∙ sum_by-append f (range_with_len 0 n) (n ∷ []) ∙ ap (λ m. sum_by f (range_with_len 0 n) + m) one
  where
    one : sum_by f (n ∷ []) ≡ f n
    one = zero-add (f n)

-- the greatest with one more
greatest_more : (ns : List ℕ) (n : ℕ) → greatest (ns ++ n ∷ []) ≡ max n (greatest ns)
greatest_more [] n = refl
greatest_more (m ∷ ns) n = ap (max m) (greatest_more ns n) ∙ (omega arith)

pub most_more : (f : ℕ → ℕ) (n : ℕ) → greatest (map f (range_with_len 0 (n + 1))) ≡ max (f n) (greatest (map f (range_with_len 0 n)))
most_more f n =
    ap (λ ns. greatest (map f ns)) (range_more n)
    ∙ ap greatest (map-append f (range_with_len 0 n) (n ∷ []))
    ∙ greatest_more (map f (range_with_len 0 n)) (f n)
