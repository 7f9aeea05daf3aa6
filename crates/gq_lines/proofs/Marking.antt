-- Places of a byte among the first 32.
use Rattle.std.proofs.Common.{◌≡◌, ◌↔◌, ◌<◌, ◌≤◌, ◌∙◌, ℕ, zero, suc, List, [], ◌∷◌, Bool, true, false, cond, eqb, get_or, take, length, refl, sym, ap, arith, inl, inr, ◌⊎◌}
use Rattle.std.specs.Int.{bit_at}
use Rattle.std.proofs.lemmas.Bool.{eqb-true, eq-eqb, cases_lt}
use Rattle.memchr.specs.Lanes.{HasLanes}

pub get_or-take-here : (n k : ℕ) (text : List ℕ) → k < n → get_or (take n text) k 0 ≡ get_or text k 0
get_or-take-here zero k text lt = absurd (omega arith)
get_or-take-here (suc n) k [] lt = refl
get_or-take-here (suc n) zero (x ∷ text) lt = refl
get_or-take-here (suc n) (suc k) (x ∷ text) lt = get_or-take-here n k text (omega arith)

get_or-past : (xs : List ℕ) (k : ℕ) → length xs ≤ k → get_or xs k 0 ≡ 0
get_or-past [] k le = refl
get_or-past (x ∷ xs) zero le = absurd (omega arith)
get_or-past (x ∷ xs) (suc k) le = get_or-past xs k (omega arith)

ones : (b : Bool) → 128 ≤ cond b 255 0 → b ≡ true
ones true h = refl
ones false h = absurd (omega arith)

-- the bits of the lanes that are equal to the byte
pub marked : (text lanes tests : List ℕ) (byte m : ℕ) → HasLanes lanes (λ k. get_or text k 0) → HasLanes tests (λ k. cond (eqb (get_or lanes k 0) byte) 255 0) → ((k : ℕ) → (bit_at m k ≡ 1) ↔ (128 ≤ get_or tests k 0))
    → (k : ℕ) → (bit_at m k ≡ 1) ↔ ((k < 32) × (get_or text k 0 ≡ byte))
marked text lanes tests byte m is_front is_test is_top k = (there, back)
  where
    there : bit_at m k ≡ 1 → (k < 32) × (get_or text k 0 ≡ byte)
    there set = by ((is_top k).0 set) (cases_lt k 32)
      where
        by : 128 ≤ get_or tests k 0 → (k < 32) ⊎ (32 ≤ k) → (k < 32) × (get_or text k 0 ≡ byte)
        by top (inl lt) =
            let lane = is_test.each k lt in
            let high : 128 ≤ cond (eqb (get_or lanes k 0) byte) 255 0 = rw lane at top in
            (lt, sym (is_front.each k lt) ∙ eqb-true (get_or lanes k 0) byte (ones (eqb (get_or lanes k 0) byte) high))
        by top (inr ge) = absurd (omega (arith, get_or-past tests k (omega (arith, is_test.long)), top))

    back : (k < 32) × (get_or text k 0 ≡ byte) → bit_at m k ≡ 1
    back h =
        let same : eqb (get_or lanes k 0) byte ≡ true = eq-eqb (get_or lanes k 0) byte (is_front.each k h.0 ∙ h.1) in
        let lane : get_or tests k 0 ≡ 255 = is_test.each k h.0 ∙ ap (λ b. cond b 255 0) same in
        (is_top k).1 (omega arith)

pub none_before : (text : List ℕ) (byte m r : ℕ) → ((k : ℕ) → (bit_at m k ≡ 1) ↔ ((k < 32) × (get_or text k 0 ≡ byte))) → ((k : ℕ) → k < r → bit_at m k ≡ 0) → (k : ℕ) → k < r → k < 32 → get_or text k 0 ≡ byte → ⊥
none_before text byte m r marks below k lt near is =
    let set : bit_at m k ≡ 1 = (marks k).1 (near, is) in
    omega (arith, below k lt)

pub marked_here : (text : List ℕ) (byte m r : ℕ) → ((k : ℕ) → (bit_at m k ≡ 1) ↔ ((k < 32) × (get_or text k 0 ≡ byte))) → (r < 64 → bit_at m r ≡ 1) → r < 32 → get_or text r 0 ≡ byte
marked_here text byte m r marks here near = ((marks r).0 (here (omega arith))).1
