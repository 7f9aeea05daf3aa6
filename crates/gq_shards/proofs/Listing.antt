-- Lists of lengths.
use Rattle.std.proofs.Common.{◌≡◌, ◌∙◌, ℕ, suc, ◌+◌, ◌-◌, ◌<◌, ◌≤◌, Bool, true, false, List, [], ◌∷◌, ◌++◌, map, length, get_or, drop, refl, sym, ap, subst, arith, append-nil, length-drop}
use Rattle.std.specs.Prelude.{min, leb, filter, is_ok, Result, Ok, Err, OnOk}
use Rattle.std.proofs.Math.Nat.{min-eq_left, min-eq_right}
use Rattle.std.proofs.lemmas.Bool.{le-leb, lt-leb, leb-true, leb-false}
use Rattle.std.proofs.lemmas.List.{map-append, length-map, drop_more}
use Rattle.std.proofs.lemmas.List.Elements.{filter-append}
use Rattle.gq_shards.specs.declared.lengths.LengthPlace.{LengthPlace}
use Rattle.gq_shards.specs.declared.lengths.Lengths.{Lengths}
use Rattle.gq_shards.specs.Shards.{AreLengths, AreLeft}

-- where a growth was not refused
pub on_ok : {T E P : Type 0} (r : Result T E) → (is_ok r ≡ true → P) → OnOk r P
on_ok (Ok x) given = given refl
on_ok (Err e) given = tt

-- a short length more, and another
pub short_more : (near far lengths : List ℕ) (n : ℕ) → AreLengths near far lengths → n < 255 → AreLengths (near ++ n ∷ []) far (lengths ++ n ∷ [])
short_more near far lengths n are short =
    let least : min 255 n ≡ n = min-eq_right (omega (arith, short)) in
    let away : leb 255 n ≡ false = lt-leb 255 n short in
    let none : filter (leb 255) (n ∷ []) ≡ [] = rw away refl in
    record {
      bytes = ap (λ z. z ++ n ∷ []) are.bytes ∙ (ap (λ m. map (min 255) lengths ++ m ∷ []) (sym least) ∙ sym (map-append (min 255) lengths (n ∷ [])));
      long = are.long ∙ sym (filter-append (leb 255) lengths (n ∷ []) ∙ (ap (λ z. filter (leb 255) lengths ++ z) none ∙ append-nil (filter (leb 255) lengths)));
    }

pub long_more : (near far lengths : List ℕ) (n : ℕ) → AreLengths near far lengths → 255 ≤ n → AreLengths (near ++ 255 ∷ []) (far ++ n ∷ []) (lengths ++ n ∷ [])
long_more near far lengths n are long =
    let least : min 255 n ≡ 255 = min-eq_left long in
    let yes : leb 255 n ≡ true = le-leb 255 n long in
    let one : filter (leb 255) (n ∷ []) ≡ n ∷ [] = rw yes refl in
    record {
      bytes = ap (λ z. z ++ 255 ∷ []) are.bytes ∙ (ap (λ m. map (min 255) lengths ++ m ∷ []) (sym least) ∙ sym (map-append (min 255) lengths (n ∷ [])));
      long = ap (λ z. z ++ n ∷ []) are.long ∙ sym (filter-append (leb 255) lengths (n ∷ []) ∙ ap (λ z. filter (leb 255) lengths ++ z) one);
    }

-- what is left begins at a place of the list
some_left : (xs : List ℕ) (i x : ℕ) (ys : List ℕ) → drop i xs ≡ x ∷ ys → i < length xs
some_left xs i x ys is = let some : length (drop i xs) ≡ suc (length ys) = ap length is in omega (arith, some, length-drop i xs)

first_left : (xs : List ℕ) (i d x : ℕ) (ys : List ℕ) → drop i xs ≡ x ∷ ys → (get_or xs i d ≡ x) × (drop (i + 1) xs ≡ ys)
first_left xs i d x ys is =
    let both : get_or xs i d ∷ drop (i + 1) xs ≡ x ∷ ys = sym (drop_more xs i d (some_left xs i x ys is)) ∙ is in
    (cc, cc)

pub near_within : (list : Lengths) (place : LengthPlace) (n : ℕ) (lengths : List ℕ) → AreLeft list place (n ∷ lengths) → place.near < length list.near.items
near_within list place n lengths left = some_left list.near.items place.near (min 255 n) (map (min 255) lengths) left.bytes

-- the next length is short
pub short_next : (list : Lengths) (place : LengthPlace) (b n : ℕ) (lengths : List ℕ) → AreLeft list place (n ∷ lengths) → b ≡ get_or list.near.items place.near b → b < 255
    → (b ≡ n) × AreLeft list (record { near = place.near + 1; far = place.far }) lengths
short_next list place b n lengths left is short = by (leb 255 n) refl
  where
    found : (get_or list.near.items place.near b ≡ min 255 n) × (drop (place.near + 1) list.near.items ≡ map (min 255) lengths)
    found = first_left list.near.items place.near b (min 255 n) (map (min 255) lengths) left.bytes

    by : (c : Bool) → leb 255 n ≡ c → (b ≡ n) × AreLeft list (record { near = place.near + 1; far = place.far }) lengths
    by true long =
        let least : min 255 n ≡ 255 = min-eq_left (leb-true 255 n long) in
        let same : b ≡ 255 = is ∙ found.0 ∙ least in
        absurd (omega (arith, same, short))
    by false low =
        let least : min 255 n ≡ n = min-eq_right (let below : n < 255 = leb-false 255 n low in omega (arith, below)) in
        let none : filter (leb 255) (n ∷ lengths) ≡ filter (leb 255) lengths = rw low refl in
        (is ∙ found.0 ∙ least, record { bytes = found.1; long = left.long ∙ none })

-- it is not
long_here : (list : Lengths) (place : LengthPlace) (b n : ℕ) (lengths : List ℕ) → AreLeft list place (n ∷ lengths) → b ≡ get_or list.near.items place.near b → 255 ≤ b
    → (drop place.far list.far.items ≡ n ∷ filter (leb 255) lengths) × (drop (place.near + 1) list.near.items ≡ map (min 255) lengths)
long_here list place b n lengths left is long = (by (leb 255 n) refl, found.1)
  where
    found : (get_or list.near.items place.near b ≡ min 255 n) × (drop (place.near + 1) list.near.items ≡ map (min 255) lengths)
    found = first_left list.near.items place.near b (min 255 n) (map (min 255) lengths) left.bytes

    by : (c : Bool) → leb 255 n ≡ c → drop place.far list.far.items ≡ n ∷ filter (leb 255) lengths
    by true high = let here : filter (leb 255) (n ∷ lengths) ≡ n ∷ filter (leb 255) lengths = rw high refl in left.long ∙ here
    by false low =
        let below : n < 255 = leb-false 255 n low in
        let least : min 255 n ≡ n = min-eq_right (omega (arith, below)) in
        let same : b ≡ n = is ∙ found.0 ∙ least in
        absurd (omega (arith, same, below, long))

pub long_next : (list : Lengths) (place : LengthPlace) (b m n : ℕ) (lengths : List ℕ) → AreLeft list place (n ∷ lengths) → b ≡ get_or list.near.items place.near b → 255 ≤ b → m ≡ get_or list.far.items place.far m
    → (m ≡ n) × AreLeft list (record { near = place.near + 1; far = place.far + 1 }) lengths
long_next list place b m n lengths left is long at =
    let here = long_here list place b n lengths left is long in
    let found = first_left list.far.items place.far m n (filter (leb 255) lengths) here.0 in
    (at ∙ found.0, record { bytes = here.1; long = found.1 })

-- where a place is before the end of the list, a length is left
pub some_listed : (list : Lengths) (place : LengthPlace) (lengths : List ℕ) → AreLeft list place lengths → place.near < length list.near.items → (n : ℕ) × (rest : List ℕ) × (lengths ≡ n ∷ rest)
some_listed list place [] left below = absurd (let none : length (drop place.near list.near.items) ≡ 0 = ap length left.bytes in omega (arith, none, length-drop place.near list.near.items, below))
some_listed list place (n ∷ rest) left below = (n, rest, refl)

pub next_listed : (list : Lengths) (place : LengthPlace) (lengths : List ℕ) → AreLeft list place lengths → place.near < length list.near.items → (n : ℕ) × (rest : List ℕ) × AreLeft list place (n ∷ rest)
next_listed list place lengths left below =
    let some = some_listed list place lengths left below in
    (some.0, some.1, subst (AreLeft list place) some.2 left)

pub none_listed : (list : Lengths) (place : LengthPlace) (lengths : List ℕ) → AreLeft list place lengths → length list.near.items ≤ place.near → lengths ≡ []
none_listed list place [] left end = refl
none_listed list place (n ∷ rest) left end = absurd (omega (arith, near_within list place n rest left, end))

-- behind it fewer are left
pub fewer_left : (list : Lengths) (place after : LengthPlace) (n : ℕ) (lengths : List ℕ) → AreLeft list place (n ∷ lengths) → AreLeft list after lengths → length list.near.items - after.near < length list.near.items - place.near
fewer_left list place after n lengths now later =
    let near = list.near.items in
    let all : length near - place.near ≡ suc (length lengths) = sym (length-drop place.near near) ∙ (ap length now.bytes ∙ ap suc (length-map lengths (min 255))) in
    let others : length near - after.near ≡ length lengths = sym (length-drop after.near near) ∙ (ap length later.bytes ∙ length-map lengths (min 255)) in
    omega (arith, all, others)
