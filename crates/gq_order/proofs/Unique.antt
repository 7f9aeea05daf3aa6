-- There is one order at most.
use Rattle.std.proofs.Common.{◌≡◌, ◌⊎◌, ℕ, suc, ◌<◌, true, false, ◌&&◌, List, [], ◌∷◌, refl, sym, ap, ◌∙◌, subst, inl, inr, Some, arith}
use Rattle.std.specs.Prelude.{slice_get, ◌==◌, nat_lt, if◌then◌else◌}
use Rattle.std.proofs.lemmas.Bool.{true≢false, and_parts, or_cases, eqb-true, ltb-true}
use Rattle.gq_tag.specs.declared.Tag.{Tag}
use Rattle.gq_laws.specs.declared.ops.Op.{Op}
use Rattle.gq_laws.specs.Operations.{is_write}
use Rattle.gq_laws.specs.Orders.{tag_of, IsBefore, IsOrder, key, key_at, is_lex_less, order}
use Rattle.gq_laws.proofs.Sorting.{key_is, lex_less, lex_same, lex_trans, Among, Sorted, among_at, at_among, order_is}
use Rattle.gq_order.proofs.Rising.{lex_self}

-- what stands before has the lesser key
lex_from : (i j : ℕ) (a b : Op) → IsBefore i a j b → is_lex_less (key i a) (key j b) ≡ true
lex_from i j a b = go
  where
    x : Tag
    x = tag_of a

    y : Tag
    y = tag_of b

    r : ℕ
    r = if is_write a then 0 else 1

    s : ℕ
    s = if is_write b then 0 else 1

    tags : x ≡ y → is_lex_less (r ∷ a.begin ∷ i ∷ []) (s ∷ b.begin ∷ j ∷ []) ≡ true → is_lex_less (key i a) (key j b) ≡ true
    tags same h =
        lex_same x.number y.number (x.session ∷ r ∷ a.begin ∷ i ∷ []) (y.session ∷ s ∷ b.begin ∷ j ∷ []) (ap (λ z. z.number) same)
        (lex_same x.session y.session (r ∷ a.begin ∷ i ∷ []) (s ∷ b.begin ∷ j ∷ []) (ap (λ z. z.session) same) h)

    less : (nat_lt x.number y.number ≡ true) ⊎ (((x.number == y.number) && nat_lt x.session y.session) ≡ true) → is_lex_less (key i a) (key j b) ≡ true
    less (inl low) = lex_less x.number y.number (x.session ∷ r ∷ a.begin ∷ i ∷ []) (y.session ∷ s ∷ b.begin ∷ j ∷ []) (ltb-true x.number y.number low)
    less (inr both) =
        let parts = and_parts (x.number == y.number) (nat_lt x.session y.session) both in
        lex_same x.number y.number (x.session ∷ r ∷ a.begin ∷ i ∷ []) (y.session ∷ s ∷ b.begin ∷ j ∷ []) (eqb-true x.number y.number parts.0)
        (lex_less x.session y.session (r ∷ a.begin ∷ i ∷ []) (s ∷ b.begin ∷ j ∷ []) (ltb-true x.session y.session parts.1))

    places : (a.begin < b.begin) ⊎ ((a.begin ≡ b.begin) × (i < j)) → is_lex_less (a.begin ∷ i ∷ []) (b.begin ∷ j ∷ []) ≡ true
    places (inl low) = lex_less a.begin b.begin (i ∷ []) (j ∷ []) low
    places (inr (same, low)) = lex_same a.begin b.begin (i ∷ []) (j ∷ []) same (lex_less i j [] [] low)

    ranks : ((is_write a ≡ true) × (is_write b ≡ false)) ⊎ ((is_write a ≡ is_write b) × ((a.begin < b.begin) ⊎ ((a.begin ≡ b.begin) × (i < j)))) → is_lex_less (r ∷ a.begin ∷ i ∷ []) (s ∷ b.begin ∷ j ∷ []) ≡ true
    ranks (inl (writes, reads)) =
        let first : r ≡ 0 = rw writes refl in
        let second : s ≡ 1 = rw reads refl in
        lex_less r s (a.begin ∷ i ∷ []) (b.begin ∷ j ∷ []) (omega (arith, first, second))
    ranks (inr (same, rest)) = lex_same r s (a.begin ∷ i ∷ []) (b.begin ∷ j ∷ []) (ap (λ z. if z then 0 else 1) same) (places rest)

    go : IsBefore i a j b → is_lex_less (key i a) (key j b) ≡ true
    go (inl low) = less (or_cases (nat_lt x.number y.number) ((x.number == y.number) && nat_lt x.session y.session) low)
    go (inr (same, rest)) = tags same (ranks rest)

sorted_from : (ops : List Op) (places : List ℕ) → ((m n i j : ℕ) → m < n → slice_get places m ≡ Some i → slice_get places n ≡ Some j → is_lex_less (key_at ops i) (key_at ops j) ≡ true) → Sorted ops places
sorted_from ops [] rises = tt
sorted_from ops (i ∷ places) rises = (
  (λ x there. let at = at_among places x there in rises 0 (suc at.0) i x (omega arith) refl at.1),
  sorted_from ops places (λ m n k l low at_m at_n. rises (suc m) (suc n) k l (omega arith) at_m at_n),
)

order_sorted : (ops : List Op) (places : List ℕ) → IsOrder ops places → Sorted ops places
order_sorted ops places is = sorted_from ops places (λ m n i j low at_m at_n.
    let (a, at_a, s) = is.stands m i at_m in
    let (b, at_b, t) = is.stands n j at_n in
    let P : List ℕ → List ℕ → Type 0 = λ y z. is_lex_less y z ≡ true in
    subst (λ y. P y (key_at ops j)) (sym (key_is ops i a at_a)) (subst (λ z. P (key i a) z) (sym (key_is ops j b at_b)) (lex_from i j a b (is.in_order m n i j a b low at_m at_n at_a at_b))))

order_among : (ops : List Op) (p q : List ℕ) → IsOrder ops p → IsOrder ops q → (x : ℕ) → Among x p → Among x q
order_among ops p q is_p is_q x there =
    let at = at_among p x there in
    let w = is_p.stands at.0 x at.1 in
    let found = is_q.all x w.0 w.1 w.2 in
    among_at q found.0 x found.1

same_sorted : (ops : List Op) (p q : List ℕ) → Sorted ops p → Sorted ops q → ((x : ℕ) → Among x p → Among x q) → ((x : ℕ) → Among x q → Among x p) → p ≡ q
same_sorted ops [] [] s t to from = refl
same_sorted ops [] (y ∷ q) s t to from = absurd (from y (inl refl))
same_sorted ops (x ∷ p) [] s t to from = absurd (to x (inl refl))
same_sorted ops (x ∷ p) (y ∷ q) s t to from = both (heads (to x (inl refl)) (from y (inl refl))) (same_sorted ops p q s.1 t.1)
  where
    never : (z : ℕ) → is_lex_less (key_at ops z) (key_at ops z) ≡ true → ⊥
    never z h = true≢false (sym h ∙ lex_self (key_at ops z))

    heads : (x ≡ y) ⊎ Among x q → (y ≡ x) ⊎ Among y p → x ≡ y
    heads (inl same) other = same
    heads (inr old) (inl same) = sym same
    heads (inr old) (inr old') = absurd (never x (lex_trans (key_at ops x) (key_at ops y) (key_at ops x) (s.0 y old') (t.0 x old)))

    tail_to : x ≡ y → (z : ℕ) → Among z p → Among z q
    tail_to same z there = by (to z (inr there))
      where
        by : (z ≡ y) ⊎ Among z q → Among z q
        by (inl is) = absurd (never x (ap (λ v. is_lex_less (key_at ops x) (key_at ops v)) (same ∙ sym is) ∙ s.0 z there))
        by (inr old) = old

    tail_from : x ≡ y → (z : ℕ) → Among z q → Among z p
    tail_from same z there = by (from z (inr there))
      where
        by : (z ≡ x) ⊎ Among z p → Among z p
        by (inl is) = absurd (never y (ap (λ v. is_lex_less (key_at ops y) (key_at ops v)) (sym same ∙ sym is) ∙ t.0 z there))
        by (inr old) = old

    both : x ≡ y → (((z : ℕ) → Among z p → Among z q) → ((z : ℕ) → Among z q → Among z p) → p ≡ q) → (x ∷ p) ≡ (y ∷ q)
    both same later =
        let rest : p ≡ q = later (tail_to same) (tail_from same) in
        cc

-- an order is that of the definition
pub order_unique : (ops : List Op) (places : List ℕ) → IsOrder ops places → places ≡ order ops
order_unique ops places is =
    let real = order_is ops in
    same_sorted ops places (order ops) (order_sorted ops places is) (order_sorted ops (order ops) real) (order_among ops places (order ops) is real) (order_among ops (order ops) places real is)
