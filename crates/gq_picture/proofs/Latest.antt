-- The last beginnings rise.
use Rattle.std.proofs.Common.{◌≡◌, ◌⊎◌, ◌∙◌, ℕ, zero, suc, ◌<◌, ◌≤◌, List, [], ◌∷◌, max, Some, refl, ap, inl, inr, arith}
use Rattle.std.specs.Prelude.{slice_get}
use Rattle.std.proofs.lemmas.Bool.{cases_lt, leb-true, and_parts}
use Rattle.std.specs.Prelude.{true, nat_le}
use Rattle.gq_laws.specs.declared.ops.Op.{Op}
use Rattle.gq_laws.specs.Checks.{is_in_order, is_open_at}
use Rattle.gq_picture.specs.Columns.{below, latest_from}
use Rattle.gq_picture.proofs.Counts.{counted, passed}

-- none is below the place before them
pub no_lower : (last : ℕ) (seq : List Op) (m x : ℕ) → slice_get (latest_from last seq) m ≡ Some x → last ≤ x
no_lower last [] m x at = cc
no_lower last (a ∷ seq) zero x at = let same : max last a.begin ≡ x = cc in omega (arith, same)
no_lower last (a ∷ seq) (suc m) x at = let low = no_lower (max last a.begin) seq m x at in omega (arith, low)

-- nor below the operation's own beginning
pub no_earlier : (last : ℕ) (seq : List Op) (m x : ℕ) (a : Op) → slice_get seq m ≡ Some a → slice_get (latest_from last seq) m ≡ Some x → a.begin ≤ x
no_earlier last [] m x a at_a at = cc
no_earlier last (b ∷ seq) zero x a at_a at =
    let same : max last b.begin ≡ x = cc in
    let own : b.begin ≡ a.begin = ap (λ (c : Op). c.begin) (let is : b ≡ a = cc in is) in
    omega (arith, same, own)
no_earlier last (b ∷ seq) (suc m) x a at_a at = no_earlier (max last b.begin) seq m x a at_a at

-- later ones are no lower
pub rises : (last : ℕ) (seq : List Op) (m n x y : ℕ) → slice_get (latest_from last seq) m ≡ Some x → slice_get (latest_from last seq) n ≡ Some y → m < n → x ≤ y
rises last [] m n x y at_x at_y low = cc
rises last (a ∷ seq) m zero x y at_x at_y low = absurd (omega arith)
rises last (a ∷ seq) zero (suc n) x y at_x at_y low =
    let same : max last a.begin ≡ x = cc in
    let later = no_lower (max last a.begin) seq n y at_y in
    omega (arith, same, later)
rises last (a ∷ seq) (suc m) (suc n) x y at_x at_y low = rises (max last a.begin) seq m n x y at_x at_y (omega arith)

-- none is below a place that is no greater than the one before them
none_below : (n last : ℕ) (seq : List Op) → n ≤ last → below n (latest_from last seq) ≡ 0
none_below n last [] low = refl
none_below n last (a ∷ seq) low = passed n (max last a.begin) (latest_from (max last a.begin) seq) (omega arith) ∙ none_below n (max last a.begin) seq (omega arith)

-- those that are below a place no greater than this one stand before it
pub few_below : (n last : ℕ) (seq : List Op) (m x : ℕ) → slice_get (latest_from last seq) m ≡ Some x → n ≤ x → below n (latest_from last seq) ≤ m
few_below n last [] m x at low = cc
few_below n last (a ∷ seq) zero x at low =
    let same : max last a.begin ≡ x = cc in
    let none = none_below n (max last a.begin) seq (omega (arith, same)) in
    rw (passed n (max last a.begin) (latest_from (max last a.begin) seq) (omega (arith, same)), none) (omega arith)
few_below n last (a ∷ seq) (suc m) x at low = by (cases_lt (max last a.begin) n) (few_below n (max last a.begin) seq m x at low)
  where
    rest : List ℕ
    rest = latest_from (max last a.begin) seq

    by : (max last a.begin < n) ⊎ (n ≤ max last a.begin) → below n rest ≤ m → below n (max last a.begin ∷ rest) ≤ suc m
    by (inl is) h = rw (counted n (max last a.begin) rest is) (omega (arith, h))
    by (inr is) h = rw (passed n (max last a.begin) rest is) (omega (arith, h))

-- those up to this one are below a greater place
pub all_below : (n last : ℕ) (seq : List Op) (m x : ℕ) → slice_get (latest_from last seq) m ≡ Some x → x < n → m < below n (latest_from last seq)
all_below n last [] m x at low = cc
all_below n last (a ∷ seq) zero x at low =
    let same : max last a.begin ≡ x = cc in
    rw (counted n (max last a.begin) (latest_from (max last a.begin) seq) (omega (arith, same))) (omega arith)
all_below n last (a ∷ seq) (suc m) x at low =
    let lower = no_lower (max last a.begin) seq m x at in
    let later = all_below n (max last a.begin) seq m x at low in
    rw (counted n (max last a.begin) (latest_from (max last a.begin) seq) (omega (arith, lower))) (omega (arith, later))

-- in a legal order none ends before one begins that stands before it
pub ends_later : (last : ℕ) (seq : List Op) (m x e : ℕ) (a : Op) → is_in_order last seq ≡ true → slice_get seq m ≡ Some a → slice_get (latest_from last seq) m ≡ Some x → a.end ≡ Some e → x ≤ e
ends_later last [] m x e a legal at_a at ends = cc
ends_later last (b ∷ seq) zero x e a legal at_a at ends =
    let same : max last b.begin ≡ x = cc in
    let own : b.end ≡ Some e = ap (λ (c : Op). c.end) (let is : b ≡ a = cc in is) ∙ ends in
    let lasts : is_open_at (max last b.begin) b.end ≡ true = (and_parts (is_open_at (max last b.begin) b.end) (is_in_order (max last b.begin) seq) legal).0 in
    let low : nat_le (max last b.begin) e ≡ true = rw own at lasts in
    let le = leb-true (max last b.begin) e low in
    omega (arith, same, le)
ends_later last (b ∷ seq) (suc m) x e a legal at_a at ends =
    ends_later (max last b.begin) seq m x e a (and_parts (is_open_at (max last b.begin) b.end) (is_in_order (max last b.begin) seq) legal).1 at_a at ends
