-- The order of operations that are tagged is legal.
use Rattle.std.proofs.Common.{◌≡◌, ◌≢◌, ◌⊎◌, ℕ, zero, suc, ◌+◌, ◌<◌, ◌≤◌, Bool, true, false, List, [], ◌∷◌, length, refl, sym, ap, ◌∙◌, subst, inl, inr, Option, Some, None, arith, is_some}
use Rattle.std.specs.Prelude.{Contains, slice_get, slice_index, IsSome}
use Rattle.std.proofs.lemmas.Bool.{cases_lt, true≢false}
use Rattle.std.proofs.lemmas.Option.{slice_get-get_or}
use Rattle.gq_tag.specs.declared.Tag.{Tag}
use Rattle.gq_tag.specs.Tag.{first_tag, is_less}
use Rattle.gq_tag.proofs.Order.{IsAtMost, at_most_refl, less_at_most, at_most-parts}
use Rattle.gq_laws.specs.declared.ops.Kind.{Kind}
use Rattle.gq_laws.specs.declared.ops.Kind.TheVariants.{Write as Writes, Read as Reads, Row as Rows}
use Rattle.gq_laws.specs.declared.ops.Op.{Op}
use Rattle.gq_laws.specs.Operations.{At, is_write, Gives, Precedes, WroteWith, Tagged, RegisterGives, ops_at}
use Rattle.gq_laws.specs.Orders.{tag_of, IsOrdered, IsBefore, IsOrder, OrdersAreLegal}
use Rattle.gq_laws.proofs.Found.{position_of}

-- ---- tags

at_most_both : (a b : Tag) → IsAtMost a b → IsAtMost b a → a ≡ b
at_most_both a b h k = go (at_most-parts b a h) (at_most-parts a b k)
  where
    same : a.number ≡ b.number → a.session ≡ b.session → a ≡ b
    same e f = λ i. record { number = e i; session = f i }

    go : (a.number < b.number) ⊎ ((b.number ≡ a.number) × (a.session ≤ b.session)) → (b.number < a.number) ⊎ ((a.number ≡ b.number) × (b.session ≤ a.session)) → a ≡ b
    go (inl x) (inl y) = absurd (omega arith)
    go (inl x) (inr y) = absurd (omega (arith, y.0))
    go (inr x) (inl y) = absurd (omega (arith, x.0))
    go (inr x) (inr y) = same y.0 (omega (arith, x.1, y.1))

not_less_self : (a : Tag) → is_less a a ≢ true
not_less_self a h = true≢false (sym h ∙ at_most_refl a)

tag_is : (a : Op) (x : Tag) → a.tag ≡ Some x → tag_of a ≡ x
tag_is a x h = rw h

some_tag : (a : Op) → IsSome a.tag → a.tag ≡ Some (tag_of a)
some_tag a h = go a.tag refl
  where
    go : (t : Option Tag) → a.tag ≡ t → a.tag ≡ Some (tag_of a)
    go None e = absurd (let bad : false ≡ true = rw e at h in cc)
    go (Some x) e = e ∙ ap Some (sym (tag_is a x e))

-- ---- places

in_list : (places : List ℕ) (m i : ℕ) → slice_get places m ≡ Some i → Contains places i
in_list [] m i h = absurd (let bad : None ≡ Some i = h in cc)
in_list (x ∷ places) zero i h = (0, omega arith, (let same : x ≡ i = cc in same))
in_list (x ∷ places) (suc m) i h = let later = in_list places m i h in (suc later.0, omega (arith, later.1), later.2)

same_op : (ops : List Op) (i j : ℕ) (a b : Op) → i ≡ j → At ops i a → At ops j b → a ≡ b
same_op ops i j a b same at_a at_b = let both : Some a ≡ Some b = sym at_a ∙ ap (slice_get ops) same ∙ at_b in cc

the_end : (o : Option ℕ) → IsSome o → (e : ℕ) × (o ≡ Some e)
the_end None h = absurd (true≢false (sym h))
the_end (Some e) h = (e, refl)

-- what stands in the order has a tag
has_tag : (ops : List Op) (i : ℕ) (a : Op) → Tagged ops → At ops i a → IsOrdered ops a → a.tag ≡ Some (tag_of a)
has_tag ops i a tagged at (inl ended) = some_tag a (tagged.completed i a at ended)
has_tag ops i a tagged at (inr (writes, j, b, at_b, ended, same)) = some_tag a (let P : Option Tag → Type 0 = λ t. IsSome t in subst P same (tagged.completed j b at_b ended))

-- ---- the order keeps precedence

-- what precedes does not stand after
not_after : (ops : List Op) (i j : ℕ) (a b : Op) → Tagged ops → At ops i a → At ops j b → IsOrdered ops b → Precedes a b → IsBefore j b i a → ⊥
not_after ops i j a b tagged at_a at_b stands (e, ends, low) before = go before
  where
    ta : a.tag ≡ Some (tag_of a)
    ta = some_tag a (tagged.completed i a at_a (ap is_some ends))

    tb : b.tag ≡ Some (tag_of b)
    tb = has_tag ops j b tagged at_b stands

    write_after : tag_of b ≡ tag_of a → is_write b ≡ true → ⊥
    write_after same writes =
        let less = tagged.writes_rise i j a b (tag_of a) (tag_of b) at_a at_b (e, ends, low) writes ta tb in
        let P : Tag → Type 0 = λ z. is_less (tag_of a) z ≡ true in
        not_less_self (tag_of a) (subst P same less)

    later : a.begin < b.begin
    later = omega (arith, tagged.ends_later i e a at_a ends)

    same_kind : tag_of b ≡ tag_of a → (w : Bool) → is_write b ≡ w → (b.begin < a.begin) ⊎ ((b.begin ≡ a.begin) × (j < i)) → ⊥
    same_kind same w is (inl low') = omega (arith, later)
    same_kind same w is (inr both) = omega (arith, later, both.0)

    go : IsBefore j b i a → ⊥
    go (inl less) = true≢false (sym less ∙ tagged.rising i j a b (tag_of a) (tag_of b) at_a at_b (e, ends, low) ta tb)
    go (inr (same, inl (writes, reads))) = write_after same writes
    go (inr (same, inr (kinds, begins))) = same_kind same (is_write b) refl begins

not_before_self : (i j : ℕ) (a : Op) → i ≡ j → IsBefore i a j a → ⊥
not_before_self i j a same (inl less) = not_less_self (tag_of a) less
not_before_self i j a same (inr (tags, inl (writes, reads))) = true≢false (sym writes ∙ reads)
not_before_self i j a same (inr (tags, inr (kinds, inl low))) = omega arith
not_before_self i j a same (inr (tags, inr (kinds, inr low))) = omega (arith, low.1)

-- what stands before has no greater tag
before_at_most : (i j : ℕ) (a b : Op) → IsBefore i a j b → IsAtMost (tag_of a) (tag_of b)
before_at_most i j a b (inl less) = less_at_most (tag_of a) (tag_of b) less
before_at_most i j a b (inr (same, rest)) = let P : Tag → Type 0 = λ z. IsAtMost (tag_of a) z in subst P same (at_most_refl (tag_of a))

-- ---- the register

-- what the register holds after the first n places: nothing was written, or a write of no smaller tag than any other wrote it
pub data Keeps (ops : List Op) (places : List ℕ) (n : ℕ) (bytes : List ℕ) : Type 0 where
  KeepsNone : bytes ≡ [] → ((m i : ℕ) (w : Op) → m < n → slice_get places m ≡ Some i → At ops i w → is_write w ≡ true → ⊥) → Keeps ops places n bytes
  KeepsWrite : (m i : ℕ) (w : Op) → m < n → slice_get places m ≡ Some i → At ops i w → w.kind ≡ Writes bytes → ((m' i' : ℕ) (v : Op) → m' < n → slice_get places m' ≡ Some i' → At ops i' v → is_write v ≡ true → IsAtMost (tag_of v) (tag_of w)) → Keeps ops places n bytes

kind_writes : (a : Op) (bytes : List ℕ) → a.kind ≡ Writes bytes → is_write a ≡ true
kind_writes a bytes is = rw is

writes_bytes : (a : Op) (b c : List ℕ) → a.kind ≡ Writes b → a.kind ≡ Writes c → b ≡ c
writes_bytes a b c p q = let both : Writes b ≡ Writes c = sym p ∙ q in cc

first_least : (x : Tag) → IsAtMost x first_tag → x ≡ first_tag
first_least x h = go (at_most-parts first_tag x h)
  where
    go : (x.number < 0) ⊎ ((0 ≡ x.number) × (x.session ≤ 0)) → x ≡ first_tag
    go (inl low) = absurd (omega arith)
    go (inr both) = let session : x.session ≡ 0 = omega (arith, both.1) in λ i. record { number = sym both.0 i; session = session i }

-- a read or row in the order gives what the register holds
gives_kept : (ops : List Op) (places : List ℕ) → Tagged ops → IsOrder ops places → (n i : ℕ) (a : Op) (bytes : List ℕ) → slice_get places n ≡ Some i → At ops i a → is_write a ≡ false → Keeps ops places n bytes → Gives a bytes
gives_kept ops places tagged order n i a bytes place at reads keeps = by (ended stands)
  where
    stands : IsOrdered ops a
    stands = let s = order.stands n i place in let same : s.0 ≡ a = same_op ops i i s.0 a refl s.1 at in let P : Op → Type 0 = λ z. IsOrdered ops z in subst P same s.2

    ended : IsOrdered ops a → IsSome a.end
    ended (inl e) = e
    ended (inr unended) = absurd (true≢false (sym unended.0 ∙ reads))

    ta : a.tag ≡ Some (tag_of a)
    ta = has_tag ops i a tagged at stands

    tag_of_write : (m j : ℕ) (w : Op) → slice_get places m ≡ Some j → At ops j w → w.tag ≡ Some (tag_of w)
    tag_of_write m j w at_m at_w = let s = order.stands m j at_m in let same : s.0 ≡ w = same_op ops j j s.0 w refl s.1 at_w in let P : Op → Type 0 = λ z. IsOrdered ops z in has_tag ops j w tagged at_w (subst P same s.2)

    first : tag_of a ≡ first_tag → Gives a [] → Keeps ops places n bytes → Gives a bytes
    first is gives (KeepsNone empty none) = let P : List ℕ → Type 0 = λ z. Gives a z in subst P (sym empty) gives
    first is gives (KeepsWrite m j w low at_m at_w kind most) = absurd (
        let P : Tag → Type 0 = λ z. IsAtMost (tag_of w) z in
        let least : tag_of w ≡ first_tag = first_least (tag_of w) (subst P is (before_at_most j i w a (order.in_order m n j i w a low at_m place at_w at))) in
        tagged.write_tags_not_first j w at_w (kind_writes w bytes kind) (tag_of_write m j w at_m at_w ∙ ap Some least))

    -- the write that it read from stands before it
    earlier : (j m : ℕ) (w : Op) → At ops j w → is_write w ≡ true → tag_of w ≡ tag_of a → slice_get places m ≡ Some j → m < n
    earlier j m w at_w writes same at_m = go (cases_lt m n) (cases_lt n m)
      where
        backward : IsBefore i a j w → ⊥
        backward (inl less) = let P : Tag → Type 0 = λ z. is_less (tag_of a) z ≡ true in not_less_self (tag_of a) (subst P same less)
        backward (inr (tags, inl (writes', reads'))) = true≢false (sym writes' ∙ reads)
        backward (inr (tags, inr (kinds, begins))) = true≢false (sym writes ∙ sym kinds ∙ reads)

        go : (m < n) ⊎ (n ≤ m) → (n < m) ⊎ (m ≤ n) → m < n
        go (inl low) other = low
        go (inr high) (inl low) = absurd (backward (order.in_order n m i j a w low place at_m at at_w))
        go (inr high) (inr low) = absurd (
            let places_same : m ≡ n = omega arith in
            let both : Some j ≡ Some i = sym at_m ∙ ap (slice_get places) places_same ∙ place in
            let same_place : j ≡ i = cc in
            let ops_same : w ≡ a = same_op ops j i w a same_place at_w at in
            true≢false (sym writes ∙ ap is_write ops_same ∙ reads))

    from : (j : ℕ) (w : Op) (given : List ℕ) → At ops j w → WroteWith w (tag_of a) given → Gives a given → Keeps ops places n bytes → Gives a bytes
    from j w given at_w wrote gives keeps' = go keeps'
      where
        writes : is_write w ≡ true
        writes = kind_writes w given wrote.0

        stands_w : IsOrdered ops w
        stands_w = inr (writes, i, a, at, ended stands, ta ∙ sym wrote.1)

        found : (m : ℕ) × (slice_get places m ≡ Some j)
        found = order.all j w at_w stands_w

        same : tag_of w ≡ tag_of a
        same = tag_is w (tag_of a) wrote.1

        low : found.0 < n
        low = earlier j found.0 w at_w writes same found.1

        go : Keeps ops places n bytes → Gives a bytes
        go (KeepsNone empty none) = absurd (none found.0 j w low found.1 at_w writes)
        go (KeepsWrite m k v low_v at_m at_v kind most) =
            let up : IsAtMost (tag_of w) (tag_of v) = most found.0 j w low found.1 at_w writes in
            let down : IsAtMost (tag_of v) (tag_of a) = before_at_most k i v a (order.in_order m n k i v a low_v at_m place at_v at) in
            let P : Tag → Type 0 = λ z. IsAtMost (tag_of v) z in
            let tags : tag_of v ≡ tag_of w = at_most_both (tag_of v) (tag_of w) (subst P (sym same) down) up in
            let tv : v.tag ≡ Some (tag_of a) = tag_of_write m k v at_m at_v ∙ ap Some (tags ∙ same) in
            let one : k ≡ j = tagged.write_tags_differ k j v w (tag_of a) at_v at_w (kind_writes v bytes kind) writes tv wrote.1 in
            let ops_same : v ≡ w = same_op ops k j v w one at_v at_w in
            let bytes_same : given ≡ bytes = writes_bytes w given bytes wrote.0 (ap (λ z. z.kind) (sym ops_same) ∙ kind) in
            let Q : List ℕ → Type 0 = λ z. Gives a z in
            subst Q bytes_same gives

    by : IsSome a.end → Gives a bytes
    by e = source (the_end a.end e)
      where
        source : (e : ℕ) × (a.end ≡ Some e) → Gives a bytes
        source (e, ends) = source_of (tagged.sourced i e a (tag_of a) at reads ends ta)
          where
            source_of : ((tag_of a ≡ first_tag) × Gives a []) ⊎ ((j : ℕ) × (w : Op) × (given : List ℕ) × At ops j w × WroteWith w (tag_of a) given × (w.begin < e) × Gives a given) → Gives a bytes
            source_of (inl x) = first x.0 x.1 keeps
            source_of (inr (j, w, given, at_w, wrote, low, gives)) = from j w given at_w wrote gives keeps

-- after one more place
keeps_write : (ops : List Op) (places : List ℕ) → IsOrder ops places → (n i : ℕ) (a : Op) (bytes written : List ℕ) → slice_get places n ≡ Some i → At ops i a → a.kind ≡ Writes written → Keeps ops places (n + 1) written
keeps_write ops places order n i a bytes written place at kind = KeepsWrite n i a (omega arith) place at kind most
  where
    most : (m j : ℕ) (v : Op) → m < n + 1 → slice_get places m ≡ Some j → At ops j v → is_write v ≡ true → IsAtMost (tag_of v) (tag_of a)
    most m j v low at_m at_v writes = go (cases_lt m n)
      where
        go : (m < n) ⊎ (n ≤ m) → IsAtMost (tag_of v) (tag_of a)
        go (inl less) = before_at_most j i v a (order.in_order m n j i v a less at_m place at_v at)
        go (inr more) =
            let same : m ≡ n = omega arith in
            let both : Some j ≡ Some i = sym at_m ∙ ap (slice_get places) same ∙ place in
            let same_place : j ≡ i = cc in
            let ops_same : v ≡ a = same_op ops j i v a same_place at_v at in
            let P : Op → Type 0 = λ z. IsAtMost (tag_of v) (tag_of z) in
            subst P ops_same (at_most_refl (tag_of v))

keeps_read : (ops : List Op) (places : List ℕ) (n i : ℕ) (a : Op) (bytes : List ℕ) → slice_get places n ≡ Some i → At ops i a → is_write a ≡ false → Keeps ops places n bytes → Keeps ops places (n + 1) bytes
keeps_read ops places n i a bytes place at reads keeps = by keeps
  where
    old : (m j : ℕ) (v : Op) → m < n + 1 → slice_get places m ≡ Some j → At ops j v → is_write v ≡ true → m < n
    old m j v low at_m at_v writes = go (cases_lt m n)
      where
        go : (m < n) ⊎ (n ≤ m) → m < n
        go (inl less) = less
        go (inr more) = absurd (
            let same : m ≡ n = omega arith in
            let both : Some j ≡ Some i = sym at_m ∙ ap (slice_get places) same ∙ place in
            let same_place : j ≡ i = cc in
            let ops_same : v ≡ a = same_op ops j i v a same_place at_v at in
            true≢false (sym writes ∙ ap is_write ops_same ∙ reads))

    by : Keeps ops places n bytes → Keeps ops places (n + 1) bytes
    by (KeepsNone empty none) = KeepsNone empty (λ m j v low at_m at_v writes. none m j v (old m j v low at_m at_v writes) at_m at_v writes)
    by (KeepsWrite m j w low at_m at_w kind most) = KeepsWrite m j w (omega arith) at_m at_w kind (λ m' j' v low' at' at_v writes. most m' j' v (old m' j' v low' at' at_v writes) at' at_v writes)

register : (ops : List Op) (places : List ℕ) → Tagged ops → IsOrder ops places → (ps : List ℕ) (n : ℕ) (bytes : List ℕ) → ((m : ℕ) → slice_get ps m ≡ slice_get places (n + m)) → Keeps ops places n bytes → RegisterGives (ops_at ops ps) bytes
register ops places tagged order [] n bytes rest keeps = tt
register ops places tagged order (i ∷ ps) n bytes rest keeps = by (order.stands n i place)
    (λ written k. register ops places tagged order ps (n + 1) written (λ m. rest (suc m) ∙ ap (slice_get places) (shift n m)) k)
  where
    shift : (n m : ℕ) → n + suc m ≡ (n + 1) + m
    shift n m = omega arith

    place : slice_get places n ≡ Some i
    place = ap (slice_get places) (zero_more n) ∙ sym (rest 0)
      where
        zero_more : (n : ℕ) → n ≡ n + 0
        zero_more n = omega arith

    by : (a : Op) × At ops i a × IsOrdered ops a → ((written : List ℕ) → Keeps ops places (n + 1) written → RegisterGives (ops_at ops ps) written) → RegisterGives (ops_at ops (i ∷ ps)) bytes
    by (a, at, stands) later = rw at (go a.kind refl)
      where
        go : (k : Kind) → a.kind ≡ k → RegisterGives (a ∷ ops_at ops ps) bytes
        go (Writes written) is = rw is ((λ reads. absurd (true≢false reads)), later written (keeps_write ops places order n i a bytes written place at is))
        go (Reads gave) is = let reads : is_write a ≡ false = rw is in let gives = gives_kept ops places tagged order n i a bytes place at reads keeps in rw is ((λ _. rw is at gives), later bytes (keeps_read ops places n i a bytes place at reads keeps))
        go (Rows gave) is = let reads : is_write a ≡ false = rw is in let gives = gives_kept ops places tagged order n i a bytes place at reads keeps in rw is ((λ _. rw is at gives), later bytes (keeps_read ops places n i a bytes place at reads keeps))

-- ---- the law

pub order_legal : OrdersAreLegal
order_legal ops places tagged order = record {
  once = λ m n low_m low_n same. once m n low_m low_n same (cases_lt m n) (cases_lt n m);
  allowed = λ i within. allowed i (position_of places i within);
  whole = λ i a at ended. let found = order.all i a at (inl ended) in in_list places found.0 i found.1;
  in_order = λ m n a b low_m low_n at_a at_b before. in_order m n a b low_m low_n at_a at_b before (cases_lt m n) (cases_lt n m);
  register = register ops places tagged order places 0 [] (λ m. ap (slice_get places) (zero_plus m)) (KeepsNone refl (λ m i w low at_m at_w writes. omega arith));
}
  where
    zero_plus : (m : ℕ) → m ≡ 0 + m
    zero_plus m = omega arith

    there : (m : ℕ) → m < length places → slice_get places m ≡ Some (slice_index places m)
    there m low = slice_get-get_or places m 0 low

    once_less : (m n : ℕ) → m < length places → n < length places → slice_index places m ≡ slice_index places n → m < n → ⊥
    once_less m n low_m low_n same low =
        let s = order.stands m (slice_index places m) (there m low_m) in
        not_before_self (slice_index places m) (slice_index places n) s.0 same (order.in_order m n (slice_index places m) (slice_index places n) s.0 s.0 low (there m low_m) (there n low_n) s.1 (sym (ap (slice_get ops) same) ∙ s.1))

    once : (m n : ℕ) → m < length places → n < length places → slice_index places m ≡ slice_index places n → (m < n) ⊎ (n ≤ m) → (n < m) ⊎ (m ≤ n) → m ≡ n
    once m n low_m low_n same (inl low) other = absurd (once_less m n low_m low_n same low)
    once m n low_m low_n same (inr high) (inl low) = absurd (once_less n m low_n low_m (sym same) low)
    once m n low_m low_n same (inr high) (inr low) = omega arith

    allowed : (i : ℕ) → (m : ℕ) × (slice_get places m ≡ Some i) → (a : Op) × At ops i a × (IsSome a.end ⊎ (is_write a ≡ true))
    allowed i (m, at_m) = by (order.stands m i at_m)
      where
        kind : (a : Op) → IsOrdered ops a → IsSome a.end ⊎ (is_write a ≡ true)
        kind a (inl ended) = inl ended
        kind a (inr unended) = inr unended.0

        by : (a : Op) × At ops i a × IsOrdered ops a → (a : Op) × At ops i a × (IsSome a.end ⊎ (is_write a ≡ true))
        by (a, at, stands) = (a, at, kind a stands)

    in_order : (m n : ℕ) (a b : Op) → m < length places → n < length places → At ops (slice_index places m) a → At ops (slice_index places n) b → Precedes a b → (m < n) ⊎ (n ≤ m) → (n < m) ⊎ (m ≤ n) → m < n
    in_order m n a b low_m low_n at_a at_b before (inl low) other = low
    in_order m n a b low_m low_n at_a at_b before (inr high) (inl low) = absurd (
        let s = order.stands n (slice_index places n) (there n low_n) in
        let same : s.0 ≡ b = same_op ops (slice_index places n) (slice_index places n) s.0 b refl s.1 at_b in
        let P : Op → Type 0 = λ z. IsOrdered ops z in
        not_after ops (slice_index places m) (slice_index places n) a b tagged at_a at_b (subst P same s.2) before
        (order.in_order n m (slice_index places n) (slice_index places m) b a low (there n low_n) (there m low_m) at_b at_a))
    in_order m n a b low_m low_n at_a at_b (e, ends, less) (inr high) (inr low) = absurd (
        let same : m ≡ n = omega arith in
        let ops_same : a ≡ b = same_op ops (slice_index places m) (slice_index places n) a b (ap (slice_index places) same) at_a at_b in
        omega (arith, tagged.ends_later (slice_index places m) e a at_a ends, ap (λ z. z.begin) ops_same, less))
