-- Lists that grow by one.
use Rattle.std.proofs.Common.{◌≡◌, ◌∙◌, ap, sym, length, length-append, ℕ, suc, ◌+◌, Bool, true, false, cond, refl, [], ◌∷◌, ◌++◌, List, arith, append-nil}
use Rattle.std.specs.Prelude.{map, filter}
use Rattle.gq_grid.specs.Grid.{Servers}
use Rattle.gq_grid.proofs.Same.{range_more}
use Rattle.gq_round.specs.Round.{apart}
use Rattle.std.specs.List.{range_with_len}

filter-more : (p : ℕ → Bool) (xs ys : List ℕ) → filter p (xs ++ ys) ≡ filter p xs ++ filter p ys
filter-more p [] ys = refl
filter-more p (x ∷ xs) ys = cases (p x) (filter-more p xs ys)
  where
    cases : (b : Bool) → filter p (xs ++ ys) ≡ filter p xs ++ filter p ys → cond b (x ∷ filter p (xs ++ ys)) (filter p (xs ++ ys)) ≡ cond b (x ∷ filter p xs) (filter p xs) ++ filter p ys
    cases true e = ap (λ l. x ∷ l) e
    cases false e = e

map-more : {X : Type 0} (f : ℕ → X) (xs ys : List ℕ) → map f (xs ++ ys) ≡ map f xs ++ map f ys
map-more f [] ys = refl
map-more f (x ∷ xs) ys = ap (λ l. f x ∷ l) (map-more f xs ys)

whole : {X : Type 0} (f : ℕ → X) (p : ℕ → Bool) (n : ℕ) (b : Bool) → p n ≡ b →
    map f (filter p (range_with_len 0 (n + 1))) ≡ map f (filter p (range_with_len 0 n)) ++ map f (filter p (n ∷ []))
whole f p n b e =
    let s : n + 1 ≡ suc n = omega arith in
    let z : 0 + n ≡ n = omega arith in
    ap (λ j. map f (filter p (range_with_len 0 j))) s ∙ ap (λ l. map f (filter p l)) (range_more 0 n n z) ∙ ap (map f) (filter-more p (range_with_len 0 n) (n ∷ [])) ∙ map-more f (filter p (range_with_len 0 n)) (filter p (n ∷ []))

-- one number more that passes
pub map_filter_more : {X : Type 0} (f : ℕ → X) (p : ℕ → Bool) (n : ℕ) → p n ≡ true → map f (filter p (range_with_len 0 (n + 1))) ≡ map f (filter p (range_with_len 0 n)) ++ f n ∷ []
map_filter_more f p n e = whole f p n true e ∙ rw e refl

-- one that does not
pub map_filter_same : {X : Type 0} (f : ℕ → X) (p : ℕ → Bool) (n : ℕ) → p n ≡ false → map f (filter p (range_with_len 0 (n + 1))) ≡ map f (filter p (range_with_len 0 n))
map_filter_same f p n e = whole f p n false e ∙ rw e (append-nil _)

pub apart-true : (set but : Servers) (n : ℕ) → set n ≡ true → but n ≡ false → apart set but n ≡ true
apart-true set but n e f = rw (e, f) refl

pub apart-left : (set but : Servers) (n : ℕ) → set n ≡ false → apart set but n ≡ false
apart-left set but n e = rw e refl

pub apart-right : (set but : Servers) (n : ℕ) → set n ≡ true → but n ≡ true → apart set but n ≡ false
apart-right set but n e f = rw (e, f) refl

-- one more that passes makes the list longer by one
pub length_more : {X : Type 0} (f : ℕ → X) (p : ℕ → Bool) (n k : ℕ) → p n ≡ true → k ≡ length (map f (filter p (range_with_len 0 n))) → k + 1 ≡ length (map f (filter p (range_with_len 0 (n + 1))))
length_more f p n k passes is =
    ap (λ c. c + 1) is ∙ sym (ap length (map_filter_more f p n passes) ∙ length-append (map f (filter p (range_with_len 0 n))) (f n ∷ []))
