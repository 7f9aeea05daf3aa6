-- How many numbers are below one.
use Rattle.std.proofs.Common.{◌≡◌, ◌⊎◌, ◌∙◌, ℕ, zero, suc, ◌+◌, ◌<◌, ◌≤◌, List, [], ◌∷◌, Bool, true, false, nat_lt, Some, refl, ap, inl, inr, zero-add, arith}
use Rattle.std.specs.Prelude.{slice_get}
use Rattle.std.specs.Prelude.{if◌then◌else◌}
use Rattle.std.proofs.lemmas.List.Sums.{sum_by-cons}
use Rattle.std.proofs.lemmas.Bool.{cases_lt, lt-ltb, ltb-true}
use Rattle.gq_picture.specs.Columns.{below}

-- one is counted where it is below, and else not
pub counted : (n x : ℕ) (xs : List ℕ) → x < n → below n (x ∷ xs) ≡ 1 + below n xs
counted n x xs low = sum_by-cons (λ y. if nat_lt y n then 1 else 0) x xs ∙ ap (λ k. k + below n xs) one
  where
    one : ◌≡◌ {A = ℕ} (if nat_lt x n then 1 else 0) 1
    one = rw (lt-ltb x n low) refl

pub passed : (n x : ℕ) (xs : List ℕ) → n ≤ x → below n (x ∷ xs) ≡ below n xs
passed n x xs high = sum_by-cons (λ y. if nat_lt y n then 1 else 0) x xs ∙ (ap (λ k. k + below n xs) (by (nat_lt x n) refl) ∙ zero-add (below n xs))
  where
    by : (b : Bool) → nat_lt x n ≡ b → ◌≡◌ {A = ℕ} (if b then 1 else 0) 0
    by true is = absurd (let low = ltb-true x n is in omega arith)
    by false is = refl

-- more are below a greater one
pub below_more : (n o : ℕ) (xs : List ℕ) → n ≤ o → below n xs ≤ below o xs
below_more n o [] low = omega arith
below_more n o (x ∷ xs) low = by (cases_lt x n) (cases_lt x o) (below_more n o xs low)
  where
    by : (x < n) ⊎ (n ≤ x) → (x < o) ⊎ (o ≤ x) → below n xs ≤ below o xs → below n (x ∷ xs) ≤ below o (x ∷ xs)
    by (inl a) (inl b) h = rw (counted n x xs a, counted o x xs b) (omega (arith, h))
    by (inl a) (inr b) h = absurd (omega arith)
    by (inr a) (inl b) h = rw (passed n x xs a, counted o x xs b) (omega (arith, h))
    by (inr a) (inr b) h = rw (passed n x xs a, passed o x xs b) h

-- and one more, where a number lies between
pub below_less : (n o x m : ℕ) (xs : List ℕ) → slice_get xs m ≡ Some x → n ≤ x → x < o → below n xs < below o xs
below_less n o x m [] at low high = cc
below_less n o x zero (y ∷ xs) at low high =
    let same : y ≡ x = cc in
    let more = below_more n o xs (omega arith) in
    rw (passed n y xs (omega (arith, same)), counted o y xs (omega (arith, same))) (omega (arith, more))
below_less n o x (suc m) (y ∷ xs) at low high = by (cases_lt y n) (cases_lt y o) (below_less n o x m xs at low high)
  where
    by : (y < n) ⊎ (n ≤ y) → (y < o) ⊎ (o ≤ y) → below n xs < below o xs → below n (y ∷ xs) < below o (y ∷ xs)
    by (inl a) (inl b) h = rw (counted n y xs a, counted o y xs b) (omega (arith, h))
    by (inl a) (inr b) h = absurd (omega arith)
    by (inr a) (inl b) h = rw (passed n y xs a, counted o y xs b) (omega (arith, h))
    by (inr a) (inr b) h = rw (passed n y xs a, passed o y xs b) h
