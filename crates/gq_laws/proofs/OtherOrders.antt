-- The same operations at places that rise as the old ones do have the same order.
use Rattle.std.proofs.Common.{◌≡◌, ◌≢◌, ◌⊎◌, ℕ, ◌+◌, ◌<◌, ◌≤◌, ◌&&◌, ◌∙◌, List, [], ◌∷◌, map, refl, sym, ap, inl, inr, Option, Some, None, option_map, arith}
use Rattle.std.specs.Prelude.{nat_lt, ◌==◌, is_some, slice_get, if◌then◌else◌}
use Rattle.std.specs.List.{list_any}
use Rattle.std.proofs.lemmas.Bool.{cases_lt, cases_eq, lt-ltb, le-ltb, eq-eqb, ne_eqb}
use Rattle.std.proofs.lemmas.Option.{slice_get-map}
use Rattle.gq_laws.specs.declared.ops.Op.{Op}
use Rattle.gq_laws.specs.Laws.{IsRising}
use Rattle.gq_laws.specs.Operations.{ops_at}
use Rattle.gq_laws.specs.Orders.{key, key_at, is_lex_less, equal_option_tags, is_standing, insert, order_from, order}
use Rattle.gq_laws.proofs.OtherPlaces.{moved_op, low_was}

less_same : (f : ℕ → ℕ) → IsRising f → (x y : ℕ) → nat_lt (f x) (f y) ≡ nat_lt x y
less_same f rises x y = go (cases_lt x y)
  where
    above : (y ≤ x) → f y ≤ f x
    above high = by (cases_lt (f x) (f y))
      where
        by : (f x < f y) ⊎ (f y ≤ f x) → f y ≤ f x
        by (inl low) = absurd (let less = low_was f rises x y low in omega arith)
        by (inr is) = is

    go : (x < y) ⊎ (y ≤ x) → nat_lt (f x) (f y) ≡ nat_lt x y
    go (inl less) = lt-ltb (f x) (f y) (rises x y less) ∙ sym (lt-ltb x y less)
    go (inr high) = le-ltb (f x) (f y) (above high) ∙ sym (le-ltb x y high)

equal_same : (f : ℕ → ℕ) → IsRising f → (x y : ℕ) → (f x == f y) ≡ (x == y)
equal_same f rises x y = go (cases_eq x y)
  where
    go : (x ≡ y) ⊎ (x ≢ y) → (f x == f y) ≡ (x == y)
    go (inl same) = eq-eqb (f x) (f y) (ap f same) ∙ sym (eq-eqb x y same)
    go (inr other) = ne_eqb (f x) (f y) apart ∙ sym (ne_eqb x y other)
      where
        lower : (y ≤ x) → y < x
        lower high = by (cases_lt y x)
          where
            by : (y < x) ⊎ (x ≤ y) → y < x
            by (inl less) = less
            by (inr least) = absurd (other (omega arith))

        apart : f x ≢ f y
        apart same = by (cases_lt x y)
          where
            by : (x < y) ⊎ (y ≤ x) → ⊥
            by (inl less) = let low = rises x y less in omega (arith, same)
            by (inr high) = let low = rises y x (lower high) in omega (arith, same)

-- keys stand as before
lex_same : (f : ℕ → ℕ) → IsRising f → (i j : ℕ) (a b : Op) → is_lex_less (key i (moved_op f a)) (key j (moved_op f b)) ≡ is_lex_less (key i a) (key j b)
lex_same f rises i j a b = rw (less_same f rises a.begin b.begin, equal_same f rises a.begin b.begin) refl

keys_same : (f : ℕ → ℕ) → IsRising f → (ops : List Op) (i j : ℕ) → is_lex_less (key_at (map (moved_op f) ops) i) (key_at (map (moved_op f) ops) j) ≡ is_lex_less (key_at ops i) (key_at ops j)
keys_same f rises ops i j = by (slice_get ops i) refl (slice_get ops j) refl
  where
    by : (o : Option Op) → slice_get ops i ≡ o → (p : Option Op) → slice_get ops j ≡ p → is_lex_less (key_at (map (moved_op f) ops) i) (key_at (map (moved_op f) ops) j) ≡ is_lex_less (key_at ops i) (key_at ops j)
    by None is p at = rw (slice_get-map (moved_op f) ops i, is) refl
    by (Some a) is None at = rw (slice_get-map (moved_op f) ops i, slice_get-map (moved_op f) ops j, is, at) refl
    by (Some a) is (Some b) at = rw (slice_get-map (moved_op f) ops i, slice_get-map (moved_op f) ops j, is, at) (lex_same f rises i j a b)

insert_same : (f : ℕ → ℕ) → IsRising f → (ops : List Op) (i : ℕ) (js : List ℕ) → insert (map (moved_op f) ops) i js ≡ insert ops i js
insert_same f rises ops i [] = refl
insert_same f rises ops i (j ∷ js) =
    ap (λ z. if is_lex_less (key_at (map (moved_op f) ops) i) (key_at (map (moved_op f) ops) j) then i ∷ j ∷ js else j ∷ z) (insert_same f rises ops i js)
    ∙ ap (λ b. if b then i ∷ j ∷ js else j ∷ insert ops i js) (keys_same f rises ops i j)

-- those that stand are the same
end_same : (f : ℕ → ℕ) (end : Option ℕ) → is_some (option_map f end) ≡ is_some end
end_same f None = refl
end_same f (Some e) = refl

gives_same : (f : ℕ → ℕ) (a : Op) (ops : List Op) → list_any (λ b. is_some b.end && equal_option_tags b.tag a.tag) (map (moved_op f) ops) ≡ list_any (λ b. is_some b.end && equal_option_tags b.tag a.tag) ops
gives_same f a [] = refl
gives_same f a (b ∷ ops) = rw (end_same f b.end, gives_same f a ops) refl

standing_same : (f : ℕ → ℕ) (ops : List Op) (a : Op) → is_standing (map (moved_op f) ops) (moved_op f a) ≡ is_standing ops a
standing_same f ops a = rw (end_same f a.end, gives_same f a ops) refl

order_from_same : (f : ℕ → ℕ) → IsRising f → (ops : List Op) (i : ℕ) (rest : List Op) → order_from (map (moved_op f) ops) i (map (moved_op f) rest) ≡ order_from ops i rest
order_from_same f rises ops i [] = refl
order_from_same f rises ops i (a ∷ rest) =
    let later = order_from_same f rises ops (i + 1) rest in
    ap (λ z. if is_standing (map (moved_op f) ops) (moved_op f a) then insert (map (moved_op f) ops) i z else z) later
    ∙ ap (λ z. if is_standing (map (moved_op f) ops) (moved_op f a) then z else order_from ops (i + 1) rest) (insert_same f rises ops i (order_from ops (i + 1) rest))
    ∙ ap (λ b. if b then insert ops i (order_from ops (i + 1) rest) else order_from ops (i + 1) rest) (standing_same f ops a)

pub order_same : (f : ℕ → ℕ) → IsRising f → (ops : List Op) → order (map (moved_op f) ops) ≡ order ops
order_same f rises ops = order_from_same f rises ops 0 ops

-- and the operations at places of the list are the old ones, moved
pub ops_at_same : (f : ℕ → ℕ) (ops : List Op) (places : List ℕ) → ops_at (map (moved_op f) ops) places ≡ map (moved_op f) (ops_at ops places)
ops_at_same f ops [] = refl
ops_at_same f ops (i ∷ places) = by (slice_get ops i) refl (ops_at_same f ops places)
  where
    by : (o : Option Op) → slice_get ops i ≡ o → ops_at (map (moved_op f) ops) places ≡ map (moved_op f) (ops_at ops places) → ops_at (map (moved_op f) ops) (i ∷ places) ≡ map (moved_op f) (ops_at ops (i ∷ places))
    by None is later = rw (slice_get-map (moved_op f) ops i, is) later
    by (Some a) is later = rw (slice_get-map (moved_op f) ops i, is) (ap (λ more. moved_op f a ∷ more) later)
