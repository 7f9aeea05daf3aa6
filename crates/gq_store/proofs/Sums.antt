-- Sums over lists, of which one is nowhere above the other.
use Rattle.std.proofs.Common.{◌≡◌, ℕ, zero, suc, ◌+◌, ◌*◌, ◌<◌, ◌≤◌, List, [], ◌∷◌, length, map, get_or, refl, arith}
use Rattle.std.specs.Prelude.{All}
use Rattle.std.specs.List.{sum_by}
use Rattle.std.proofs.lemmas.List.Sums.{sum_by-cons}

pub rest_all : {X : Type 0} (P : X → Type 0) (x : X) (xs : List X) → All P (x ∷ xs) → All P xs
rest_all P x xs h k d lt = h (suc k) d (omega arith)

pub sum_by_below : {X : Type 0} (f g : X → ℕ) (xs : List X) → All (λ x. f x ≤ g x) xs → sum_by f xs ≤ sum_by g xs
sum_by_below f g [] h = omega arith
sum_by_below f g (x ∷ xs) h =
    let first : f x ≤ g x = h 0 x (omega arith) in
    omega (arith, sum_by_below f g xs (rest_all (λ y. f y ≤ g y) x xs h), sum_by-cons f x xs, sum_by-cons g x xs)

-- what is spare at one place is spare in the sum
pub sum_by_spare : {X : Type 0} (f g : X → ℕ) (xs : List X) (i : ℕ) (d : X) → i < length xs → All (λ x. f x ≤ g x) xs → sum_by f xs + g (get_or xs i d) ≤ sum_by g xs + f (get_or xs i d)
sum_by_spare f g [] i d lt h = absurd (omega arith)
sum_by_spare f g (x ∷ xs) zero d lt h =
    omega (arith, sum_by_below f g xs (rest_all (λ y. f y ≤ g y) x xs h), sum_by-cons f x xs, sum_by-cons g x xs)
sum_by_spare f g (x ∷ xs) (suc i) d lt h =
    let first : f x ≤ g x = h 0 x (omega arith) in
    omega (arith, sum_by_spare f g xs i d (omega arith) (rest_all (λ y. f y ≤ g y) x xs h), sum_by-cons f x xs, sum_by-cons g x xs)

pub sum_by-map : {X Y : Type 0} (f : Y → ℕ) (g : X → Y) (xs : List X) → sum_by f (map g xs) ≡ sum_by (λ x. f (g x)) xs
sum_by-map f g [] = refl
sum_by-map f g (x ∷ xs) =
    omega (arith, sum_by-map f g xs, sum_by-cons f (g x) (map g xs), sum_by-cons (λ y. f (g y)) x xs)

pub sum_by-same : {X : Type 0} (n : ℕ) (xs : List X) → sum_by (λ x. n) xs ≡ length xs * n
sum_by-same n [] = omega arith
sum_by-same n (x ∷ xs) = omega (arith, sum_by-same n xs, sum_by-cons (λ y. n) x xs)

pub sum_by_at : {X : Type 0} (f : X → ℕ) (xs : List X) (i : ℕ) (d : X) → i < length xs → f (get_or xs i d) ≤ sum_by f xs
sum_by_at f [] i d lt = absurd (omega arith)
sum_by_at f (x ∷ xs) zero d lt = omega (arith, sum_by-cons f x xs)
sum_by_at f (x ∷ xs) (suc i) d lt = omega (arith, sum_by_at f xs i d (omega arith), sum_by-cons f x xs)
