-- Numbers that rise are counted by halving: where they turn from low to high, there are so many low ones.
use Rattle.std.proofs.Common.{◌≡◌, ◌∙◌, ℕ, zero, suc, ◌+◌, ◌<◌, ◌≤◌, List, [], ◌∷◌, get_or, length, refl, sym, arith}
use Rattle.gq_picture.specs.Columns.{below}
use Rattle.gq_picture.proofs.Counts.{counted, passed}

pub below_turn : (n : ℕ) (xs : List ℕ) (r : ℕ) → r ≤ length xs → ((k e : ℕ) → k < r → get_or xs k e < n) → ((k e : ℕ) → r ≤ k → k < length xs → n ≤ get_or xs k e) → r ≡ below n xs
below_turn n [] zero fit low high = refl
below_turn n [] (suc r) fit low high = absurd (omega arith)
below_turn n (x ∷ xs) zero fit low high =
    below_turn n xs zero (omega arith) (λ k e under. absurd (omega arith)) (λ k e over under. high (suc k) e (omega arith) (omega arith))
    ∙ sym (passed n x xs (high 0 0 (omega arith) (omega arith)))
below_turn n (x ∷ xs) (suc r) fit low high =
    let rest : r ≡ below n xs = below_turn n xs r (omega arith) (λ k e under. low (suc k) e (omega arith)) (λ k e over under. high (suc k) e (omega arith) (omega arith)) in
    let first : below n (x ∷ xs) ≡ 1 + below n xs = counted n x xs (low 0 0 (omega arith)) in
    omega (arith, rest, first)
