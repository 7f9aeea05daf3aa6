-- A list whose items are replaced from the front, one by one, by those of another.
use Rattle.std.proofs.Common.{◌≡◌, ℕ, zero, suc, ◌+◌, ◌<◌, ◌≤◌, List, [], ◌∷◌, ◌++◌, length, map, take, drop, set, get_or, refl, sym, ap, ◌∙◌, add-one, arith}
use Rattle.std.specs.List.{sum_by}
use Rattle.std.proofs.Math.ListN.{get_or-map}
use Rattle.std.proofs.lemmas.List.{length-map, get_or_default}
use Rattle.std.proofs.lemmas.List.Sums.{sum_by-cons, sum_by-set}

-- the first k items are those of `ys`
abbrev pub mixed : {X : Type 0} → List X → List X → ℕ → List X
mixed xs ys k = take k ys ++ drop k xs

-- the k-th item is still the old one
pub mixed_at : {X : Type 0} (xs ys : List X) (k : ℕ) (d : X) → k < length xs → length xs ≡ length ys → get_or (mixed xs ys k) k d ≡ get_or xs k d
mixed_at [] ys k d lt e = absurd (omega arith)
mixed_at (x ∷ xs) [] k d lt e = absurd (omega arith)
mixed_at (x ∷ xs) (y ∷ ys) zero d lt e = refl
mixed_at (x ∷ xs) (y ∷ ys) (suc k) d lt e = mixed_at xs ys k d (omega arith) (omega arith)

mixed_suc : {X : Type 0} (xs ys : List X) (k : ℕ) (d : X) → k < length xs → length xs ≡ length ys → set (mixed xs ys k) k (get_or ys k d) ≡ mixed xs ys (suc k)
mixed_suc [] ys k d lt e = absurd (omega arith)
mixed_suc (x ∷ xs) [] k d lt e = absurd (omega arith)
mixed_suc (x ∷ xs) (y ∷ ys) zero d lt e = refl
mixed_suc (x ∷ xs) (y ∷ ys) (suc k) d lt e = ap (λ zs. y ∷ zs) (mixed_suc xs ys k d (omega arith) (omega arith))

-- one item more
pub mixed_step : {X : Type 0} (xs ys : List X) (k : ℕ) (d : X) → k < length xs → length xs ≡ length ys → set (mixed xs ys k) k (get_or ys k d) ≡ mixed xs ys (k + 1)
mixed_step xs ys k d lt e = mixed_suc xs ys k d lt e ∙ ap (mixed xs ys) (sym (add-one k))

-- all items
pub mixed_end : {X : Type 0} (xs ys : List X) (k : ℕ) → length xs ≤ k → length xs ≡ length ys → mixed xs ys k ≡ ys
mixed_end [] [] zero past e = refl
mixed_end [] [] (suc k) past e = refl
mixed_end [] (y ∷ ys) k past e = absurd (omega arith)
mixed_end (x ∷ xs) [] k past e = absurd (omega arith)
mixed_end (x ∷ xs) (y ∷ ys) zero past e = absurd (omega arith)
mixed_end (x ∷ xs) (y ∷ ys) (suc k) past e = ap (λ zs. y ∷ zs) (mixed_end xs ys k (omega arith) (omega arith))

-- ---- sums

-- the rest of a list weighs as much as its first item and what follows that
drop_suc : {X : Type 0} (w : X → ℕ) (ys : List X) (k : ℕ) (d : X) → k < length ys → sum_by w (drop k ys) ≡ w (get_or ys k d) + sum_by w (drop (suc k) ys)
drop_suc w [] k d lt = absurd (omega arith)
drop_suc w (y ∷ ys) zero d lt = omega (arith, sum_by-cons w y ys)
drop_suc w (y ∷ ys) (suc k) d lt = drop_suc w ys k d (omega arith)

pub drop_step : {X : Type 0} (w : X → ℕ) (ys : List X) (k : ℕ) (d : X) → k < length ys → sum_by w (drop k ys) ≡ w (get_or ys k d) + sum_by w (drop (k + 1) ys)
drop_step w ys k d lt = omega (arith, drop_suc w ys k d lt, ap (λ n. sum_by w (drop n ys)) (add-one k))

-- where a replaced item and its replacement weigh together what two numbers differ by, the sum with the number stays
pub sum_step : {X : Type 0} (w : X → ℕ) (xs : List X) (k : ℕ) (y d : X) (free left whole : ℕ) → k < length xs → left + w y ≡ free + w (get_or xs k d) → free + sum_by w xs ≡ whole → left + sum_by w (set xs k y) ≡ whole
sum_step w xs k y d free left whole lt moved k0 = omega (arith, sum_by-set w xs k y d lt)

-- items of no weight weigh nothing
pub sum_zero : {X Y : Type 0} (w : Y → ℕ) (f : X → Y) (xs : List X) → ((x : X) → w (f x) ≡ 0) → sum_by w (map f xs) ≡ 0
sum_zero w f [] h = refl
sum_zero w f (x ∷ xs) h = omega (arith, sum_by-cons w (f x) (map f xs), h x, sum_zero w f xs h)

-- ---- a step of a loop that replaces them

-- the item in the place, and what the free blocks are with the sum of all
pub replace_step : {X : Type 0} (w : X → ℕ) (xs ys items : List X) (k : ℕ) (d old new : X) (free left whole : ℕ) → k < length items → length items ≡ length xs → length xs ≡ length ys
    → items ≡ mixed xs ys k → free + sum_by w items ≡ whole → old ≡ get_or items k d → new ≡ get_or ys k d → left + w new ≡ free + w old
    → (set items k new ≡ mixed xs ys (k + 1)) × (left + sum_by w (set items k new) ≡ whole)
replace_step w xs ys items k d old new free left whole lt long same is sum at put moved =
    ((λ i. set (is i) k (put i)) ∙ mixed_step xs ys k d (omega arith) same, sum_step w items k new d free left whole lt (moved ∙ ap (λ x. free + w x) at) sum)

-- the old item's replacement is that of the item in the place
pub mapped_at : {X : Type 0} (f : X → X) (xs items : List X) (k : ℕ) (d old new : X) → k < length items → length items ≡ length xs → items ≡ mixed xs (map f xs) k
    → old ≡ get_or items k d → new ≡ f old → new ≡ get_or (map f xs) k d
mapped_at f xs items k d old new lt long is at put =
    let long_map : length xs ≡ length (map f xs) = sym (length-map xs f) in
    put ∙ (ap f (at ∙ (ap (λ zs. get_or zs k d) is ∙ mixed_at xs (map f xs) k d (omega arith) long_map)) ∙ (sym (get_or-map f xs k d) ∙ get_or_default (map f xs) k (f d) d (omega arith)))

-- there is room for the rest
pub room_step : {X : Type 0} (w : X → ℕ) (ys : List X) (k : ℕ) (d new : X) (free left more : ℕ) → k < length ys → new ≡ get_or ys k d → left + w new ≡ free + more → sum_by w (drop k ys) ≤ free
    → sum_by w (drop (k + 1) ys) ≤ left
room_step w ys k d new free left more lt put moved room = omega (arith, drop_step w ys k d lt, ap w put)

-- ---- lists that are alike in some way

pub alike_long : {X Y : Type 0} (g : X → Y) (xs ys : List X) → map g xs ≡ map g ys → length xs ≡ length ys
alike_long g xs ys e = omega (arith, length-map xs g, length-map ys g, ap length e)

-- the item in the place and its replacement are so too
pub alike_at : {X Y : Type 0} (g : X → Y) (xs ys items : List X) (k : ℕ) (d d' : X) → k < length items → length items ≡ length xs → items ≡ mixed xs ys k → map g xs ≡ map g ys
    → g (get_or items k d) ≡ g (get_or ys k d')
alike_at g xs ys items k d d' lt long is e =
    let same : length xs ≡ length ys = alike_long g xs ys e in
    ap (λ zs. g (get_or zs k d)) is
    ∙ (ap g (mixed_at xs ys k d (omega arith) same)
    ∙ (sym (get_or-map g xs k d) ∙ (ap (λ zs. get_or zs k (g d)) e ∙ (get_or-map g ys k d ∙ ap g (get_or_default ys k d d' (omega arith))))))
