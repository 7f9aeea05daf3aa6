-- What is kept of the sorted keys is the order.
use Rattle.std.proofs.Common.{◌≡◌, ◌≢◌, ◌⊎◌, ℕ, zero, suc, ◌+◌, ◌<◌, ◌≤◌, Bool, true, false, ◌&&◌, ◌||◌, List, [], ◌∷◌, refl, sym, ap, ◌∙◌, subst, inl, inr, Option, Some, None, arith, is_some, eqb, ltb}
use Rattle.std.specs.Prelude.{All, slice_get, slice_index_or, ◌==◌, cond, sum_by, ⊤}
use Rattle.std.specs.declared.cmp.Ordering.{Ordering}
use Rattle.std.specs.declared.cmp.Ordering.TheVariants.{Less, Equal}
use Rattle.std.specs.Ordering.{nat_cmp, is_lt, on, then_cmp}
use Rattle.std.specs.List.Sorted.{IsSorted, IsPermutation}
use Rattle.std.proofs.lemmas.Bool.{cases_eq, true≢false, and_parts, and_from, or_left, or_right, eqb-true, eq-eqb, ne_eqb, ltb-true, lt-ltb}
use Rattle.std.proofs.lemmas.List.Sums.{sum_by-cons}
use Rattle.std.proofs.lemmas.List.Elements.{All-nil, All-cons, All-head, All-tail}
use Rattle.std.proofs.lemmas.List.Sorted.{All-permutation, IsPermutation-sym, sum_by-IsPermutation}
use Rattle.gq_tag.specs.declared.Tag.{Tag}
use Rattle.gq_laws.specs.declared.ops.Op.{Op}
use Rattle.gq_laws.specs.Operations.{At, is_write, Tagged}
use Rattle.gq_laws.specs.Orders.{tag_of, IsOrdered, IsOrder, key, key_at, is_lex_less}
use Rattle.gq_laws.proofs.Sorting.{before_from, key_is, lex_cases, lex_total, lex_trans, lex_less, lex_same, Among, Sorted, among_at, at_among, sorted_at}
use Rattle.gq_order.proofs.Rests.{IsRest, rest_more, rest_first, rest_whole}
use Rattle.gq_order.proofs.Rising.{lex_self}
use Rattle.gq_order.specs.declared.keys.Key.{Key}
use Rattle.gq_order.specs.Walk.{is_done}
use Rattle.gq_order.specs.Keys.{key_of, may_stand, candidates, is_next, kept}

-- ---- the candidates

-- it is the key of an operation that may stand
abbrev pub IsKey : List Op → Key → Type 0
IsKey ops k = (a : Op) × At ops k.place a × (k ≡ key_of k.place a) × (may_stand a ≡ true)

-- a key is in the list
abbrev pub Has : Key → List Key → Type 0
Has k [] = ⊥
Has k (l ∷ keys) = (k ≡ l) ⊎ Has k keys

candidate_is : (ops rest : List Op) (n : ℕ) → IsRest ops n rest → (k : Key) → Has k (candidates n rest) → IsKey ops k × (n ≤ k.place)
candidate_is ops [] n is k has = absurd has
candidate_is ops (a ∷ rest) n is k has = go (may_stand a) refl (candidate_is ops rest (n + 1) (rest_more ops rest n a is) k)
  where
    go : (b : Bool) → may_stand a ≡ b → (Has k (candidates (n + 1) rest) → IsKey ops k × (n + 1 ≤ k.place)) → IsKey ops k × (n ≤ k.place)
    go false e later = let h = later (rw e at has) in (h.0, omega (arith, h.1))
    go true e later = by (rw e at has)
      where
        by : (k ≡ key_of n a) ⊎ Has k (candidates (n + 1) rest) → IsKey ops k × (n ≤ k.place)
        by (inl same) =
            let place : k.place ≡ n = ap (λ z. z.place) same in
            let P : ℕ → Type 0 = λ z. At ops z a in
            ((a, subst P (sym place) (rest_first ops rest n a is), same ∙ ap (λ z. key_of z a) (sym place), e), omega (arith, place))
        by (inr old) = let h = later old in (h.0, omega (arith, h.1))

candidate_all : (ops rest : List Op) (n : ℕ) → (i : ℕ) (a : Op) → slice_get rest i ≡ Some a → may_stand a ≡ true → Has (key_of (n + i) a) (candidates n rest)
candidate_all ops [] n i a at may = absurd (let bad : None ≡ Some a = at in cc)
candidate_all ops (b ∷ rest) n zero a at may =
    let same : b ≡ a = cc in
    let here : may_stand b ≡ true = ap may_stand same ∙ may in
    rw here (inl (ap (λ z. key_of z a) (none n) ∙ ap (key_of n) (sym same)))
  where
    none : (n : ℕ) → n + 0 ≡ n
    none n = omega arith
candidate_all ops (b ∷ rest) n (suc i) a at may = go (may_stand b) refl (candidate_all ops rest (n + 1) i a at may)
  where
    next : (n i : ℕ) → n + suc i ≡ n + 1 + i
    next n i = omega arith

    there : Has (key_of (n + 1 + i) a) (candidates (n + 1) rest) → Has (key_of (n + suc i) a) (candidates (n + 1) rest)
    there h = let P : ℕ → Type 0 = λ z. Has (key_of z a) (candidates (n + 1) rest) in subst P (sym (next n i)) h

    go : (c : Bool) → may_stand b ≡ c → Has (key_of (n + 1 + i) a) (candidates (n + 1) rest) → Has (key_of (n + suc i) a) (candidates n (b ∷ rest))
    go true e h = rw e (inr (there h))
    go false e h = rw e (there h)

-- how often a place is there
abbrev pub at_place : ℕ → Key → ℕ
at_place i k = cond (k.place == i) 1 0

abbrev pub counted : ℕ → List Key → ℕ
counted i [] = 0
counted i (k ∷ keys) = at_place i k + counted i keys

counted_is : (i : ℕ) (keys : List Key) → counted i keys ≡ sum_by (at_place i) keys
counted_is i [] = refl
counted_is i (k ∷ keys) = ap (λ z. at_place i k + z) (counted_is i keys) ∙ sym (sum_by-cons (at_place i) k keys)

none_below : (rest : List Op) (n i : ℕ) → i < n → counted i (candidates n rest) ≡ 0
none_below [] n i low = refl
none_below (a ∷ rest) n i low = go (may_stand a) refl (none_below rest (n + 1) i (omega arith))
  where
    go : (b : Bool) → may_stand a ≡ b → counted i (candidates (n + 1) rest) ≡ 0 → counted i (candidates n (a ∷ rest)) ≡ 0
    go false e later = rw e later
    go true e later = rw (e, ne_eqb n i (λ same. omega (arith, same))) (omega (arith, later))

once : (rest : List Op) (n i : ℕ) → counted i (candidates n rest) ≤ 1
once [] n i = omega arith
once (a ∷ rest) n i = go (may_stand a) refl (once rest (n + 1) i) (cases_eq n i)
  where
    go : (b : Bool) → may_stand a ≡ b → counted i (candidates (n + 1) rest) ≤ 1 → (n ≡ i) ⊎ (n ≢ i) → counted i (candidates n (a ∷ rest)) ≤ 1
    go false e later either = rw e later
    go true e later (inl same) = let none = none_below rest (n + 1) i (omega (arith, same)) in rw (e, eq-eqb n i same) (omega (arith, none))
    go true e later (inr ne) = rw (e, ne_eqb n i ne) (omega (arith, later))

-- ---- the keys after sorting

has_all : (P : Key → Type 0) (keys : List Key) → All P keys → (k : Key) → Has k keys → P k
has_all P [] all k has = absurd has
has_all P (l ∷ keys) all k (inl same) = subst P (sym same) (All-head P l keys all)
has_all P (l ∷ keys) all k (inr old) = has_all P keys (All-tail P l keys all) k old

all_has : (P : Key → Type 0) (keys : List Key) → ((k : Key) → Has k keys → P k) → All P keys
all_has P [] each = All-nil P
all_has P (l ∷ keys) each = All-cons P l keys (each l (inl refl)) (all_has P keys (λ k has. each k (inr has)))

-- the numbers of a key
abbrev pub numbers : Key → List ℕ
numbers k = k.number ∷ k.session ∷ k.rank ∷ k.begin ∷ k.place ∷ []

-- each key is before those after it
abbrev pub Rising : List Key → Type 0
Rising [] = ⊤
Rising (k ∷ keys) = ((l : Key) → Has l keys → is_lex_less (numbers k) (numbers l) ≡ true) × Rising keys

-- the order of keys: by the first number that differs
abbrev pub key_cmp : Key → Key → Ordering
key_cmp = then_cmp (on (λ k. k.number) nat_cmp) (then_cmp (on (λ k. k.session) nat_cmp) (then_cmp (on (λ k. k.rank) nat_cmp) (then_cmp (on (λ k. k.begin) nat_cmp) (on (λ k. k.place) nat_cmp))))

less_is : (x y : ℕ) → x < y → nat_cmp x y ≡ Less
less_is x y low = rw (lt-ltb x y low) refl

same_is : (x y : ℕ) → x ≡ y → nat_cmp x y ≡ Equal
same_is x y same = go (ltb x y) refl
  where
    go : (b : Bool) → ltb x y ≡ b → nat_cmp x y ≡ Equal
    go true e = absurd (let low = ltb-true x y e in omega arith)
    go false e = rw (e, eq-eqb x y same) refl

cmp_less : (k l : Key) → is_lex_less (numbers k) (numbers l) ≡ true → is_lt (key_cmp k l) ≡ true
cmp_less k l h = first (lex_cases k.number l.number (k.session ∷ k.rank ∷ k.begin ∷ k.place ∷ []) (l.session ∷ l.rank ∷ l.begin ∷ l.place ∷ []) h)
  where
    fifth : k.number ≡ l.number → k.session ≡ l.session → k.rank ≡ l.rank → k.begin ≡ l.begin → (k.place < l.place) ⊎ ((k.place ≡ l.place) × (is_lex_less [] [] ≡ true)) → is_lt (key_cmp k l) ≡ true
    fifth a b c d (inl low) = rw (same_is k.number l.number a, same_is k.session l.session b, same_is k.rank l.rank c, same_is k.begin l.begin d, less_is k.place l.place low) refl
    fifth a b c d (inr none) = absurd (true≢false (sym none.1))

    fourth : k.number ≡ l.number → k.session ≡ l.session → k.rank ≡ l.rank → (k.begin < l.begin) ⊎ ((k.begin ≡ l.begin) × (is_lex_less (k.place ∷ []) (l.place ∷ []) ≡ true)) → is_lt (key_cmp k l) ≡ true
    fourth a b c (inl low) = rw (same_is k.number l.number a, same_is k.session l.session b, same_is k.rank l.rank c, less_is k.begin l.begin low) refl
    fourth a b c (inr (d, rest)) = fifth a b c d (lex_cases k.place l.place [] [] rest)

    third : k.number ≡ l.number → k.session ≡ l.session → (k.rank < l.rank) ⊎ ((k.rank ≡ l.rank) × (is_lex_less (k.begin ∷ k.place ∷ []) (l.begin ∷ l.place ∷ []) ≡ true)) → is_lt (key_cmp k l) ≡ true
    third a b (inl low) = rw (same_is k.number l.number a, same_is k.session l.session b, less_is k.rank l.rank low) refl
    third a b (inr (c, rest)) = fourth a b c (lex_cases k.begin l.begin (k.place ∷ []) (l.place ∷ []) rest)

    second : k.number ≡ l.number → (k.session < l.session) ⊎ ((k.session ≡ l.session) × (is_lex_less (k.rank ∷ k.begin ∷ k.place ∷ []) (l.rank ∷ l.begin ∷ l.place ∷ []) ≡ true)) → is_lt (key_cmp k l) ≡ true
    second a (inl low) = rw (same_is k.number l.number a, less_is k.session l.session low) refl
    second a (inr (b, rest)) = third a b (lex_cases k.rank l.rank (k.begin ∷ k.place ∷ []) (l.begin ∷ l.place ∷ []) rest)

    first : (k.number < l.number) ⊎ ((k.number ≡ l.number) × (is_lex_less (k.session ∷ k.rank ∷ k.begin ∷ k.place ∷ []) (l.session ∷ l.rank ∷ l.begin ∷ l.place ∷ []) ≡ true)) → is_lt (key_cmp k l) ≡ true
    first (inl low) = rw (less_is k.number l.number low) refl
    first (inr (a, rest)) = second a (lex_cases k.session l.session (k.rank ∷ k.begin ∷ k.place ∷ []) (l.rank ∷ l.begin ∷ l.place ∷ []) rest)

-- neighbours that are not out of order, and are of two places
neighbours : (k l : Key) → is_lt (key_cmp l k) ≡ false → k.place ≢ l.place → is_lex_less (numbers k) (numbers l) ≡ true
neighbours k l sorted apart = go (is_lex_less (numbers k) (numbers l)) refl
  where
    last : numbers k ≡ numbers l → k.place ≡ l.place
    last same = let one : slice_get (numbers k) 4 ≡ slice_get (numbers l) 4 = ap (λ z. slice_get z 4) same in let both : Some k.place ≡ Some l.place = one in cc

    turned : (numbers k ≡ numbers l) ⊎ (is_lex_less (numbers l) (numbers k) ≡ true) → is_lex_less (numbers k) (numbers l) ≡ true
    turned (inl same) = absurd (apart (last same))
    turned (inr less) = absurd (true≢false (sym (cmp_less l k less) ∙ sorted))

    go : (b : Bool) → is_lex_less (numbers k) (numbers l) ≡ b → is_lex_less (numbers k) (numbers l) ≡ true
    go true e = e
    go false e = turned (lex_total (numbers k) (numbers l) refl e)

-- each key is before the next
abbrev Chain : Key → List Key → Type 0
Chain k [] = ⊤
Chain k (l ∷ keys) = (is_lex_less (numbers k) (numbers l) ≡ true) × Chain l keys

sorted_tail : (k : Key) (keys : List Key) → IsSorted key_cmp (k ∷ keys) → IsSorted key_cmp keys
sorted_tail k keys h i d first low =
    let P : ℕ → Type 0 = λ z. is_lt (key_cmp (slice_index_or (k ∷ keys) z d) (slice_index_or keys i d)) ≡ false in
    subst P (next i) (h (suc i) d (omega arith) (omega arith))
  where
    next : (i : ℕ) → suc i + 1 ≡ suc (i + 1)
    next i = omega arith

chain : (k : Key) (keys : List Key) → IsSorted key_cmp (k ∷ keys) → ((i : ℕ) → counted i (k ∷ keys) ≤ 1) → Chain k keys
chain k [] sorted few = tt
chain k (l ∷ keys) sorted few =
    (neighbours k l (sorted 0 k (omega arith) (omega arith)) apart, chain l keys (sorted_tail k (l ∷ keys) sorted) fewer)
  where
    apart : k.place ≢ l.place
    apart same =
        let most : at_place k.place k + (at_place k.place l + counted k.place keys) ≤ 1 = few k.place in
        let one : at_place k.place k ≡ 1 = rw (eq-eqb k.place k.place refl) refl in
        let two : at_place k.place l ≡ 1 = rw (eq-eqb l.place k.place (sym same)) refl in
        omega arith

    fewer : (i : ℕ) → counted i (l ∷ keys) ≤ 1
    fewer i = let most : at_place i k + counted i (l ∷ keys) ≤ 1 = few i in omega arith

chain_all : (k : Key) (keys : List Key) → Chain k keys → (l : Key) → Has l keys → is_lex_less (numbers k) (numbers l) ≡ true
chain_all k [] c l has = absurd has
chain_all k (m ∷ keys) c l (inl same) = ap (λ z. is_lex_less (numbers k) (numbers z)) same ∙ c.0
chain_all k (m ∷ keys) c l (inr old) = lex_trans (numbers k) (numbers m) (numbers l) c.0 (chain_all m keys c.1 l old)

chain_rises : (k : Key) (keys : List Key) → Chain k keys → Rising (k ∷ keys)
chain_rises k [] c = (λ l has. absurd has, tt)
chain_rises k (l ∷ keys) c = (chain_all k (l ∷ keys) c, chain_rises l keys c.1)

pub rising : (keys : List Key) → IsSorted key_cmp keys → ((i : ℕ) → counted i keys ≤ 1) → Rising keys
rising [] sorted few = tt
rising (k ∷ keys) sorted few = chain_rises k keys (chain k keys sorted few)

-- ---- what is kept

number_apart : (k l : Key) → k.place ≡ l.place → (ops : List Op) → IsKey ops k → IsKey ops l → numbers k ≡ numbers l
number_apart k l same ops (a, at_a, is_a, may_a) (b, at_b, is_b, may_b) =
    let both : Some a ≡ Some b = sym at_a ∙ ap (slice_get ops) same ∙ at_b in
    let ops_same : a ≡ b = cc in
    ap numbers (is_a ∙ ap (λ z. key_of z a) same ∙ ap (key_of l.place) ops_same ∙ sym is_b)

-- what may stand has its tag
has_tag : (ops : List Op) → Tagged ops → (i : ℕ) (a : Op) → At ops i a → may_stand a ≡ true → a.tag ≡ Some (tag_of a)
has_tag ops tagged i a at may = go (is_some a.end) refl
  where
    some : (t : Option Tag) → a.tag ≡ t → is_some a.tag ≡ true → a.tag ≡ Some (tag_of a)
    some None e h = absurd (true≢false (sym (rw e at h)))
    some (Some x) e h = rw e refl

    go : (b : Bool) → is_some a.end ≡ b → a.tag ≡ Some (tag_of a)
    go true e = some a.tag refl (tagged.completed i a at e)
    go false e = let rest : (is_write a && is_some a.tag) ≡ true = rw e at may in some a.tag refl (and_parts (is_write a) (is_some a.tag) rest).1

-- what may stand and is no write is completed
completed : (a : Op) → may_stand a ≡ true → is_write a ≡ false → is_some a.end ≡ true
completed a may reads = go (is_some a.end) refl
  where
    go : (b : Bool) → is_some a.end ≡ b → is_some a.end ≡ true
    go true e = e
    go false e = absurd (true≢false (sym (rw (e, reads) at may)))

done_is : (ops : List Op) (i : ℕ) (a : Op) → At ops i a → is_done ops i ≡ is_some a.end
done_is ops i a at = rw at refl

among_kept : (ops : List Op) (keys : List Key) (x : ℕ) → Among x (kept ops keys) → (k : Key) × Has k keys × (x ≡ k.place)
among_kept ops [] x h = absurd h
among_kept ops (k ∷ keys) x h = go (is_done ops k.place || is_next k keys) refl (among_kept ops keys x)
  where
    old : (Among x (kept ops keys) → (l : Key) × Has l keys × (x ≡ l.place)) → Among x (kept ops keys) → (l : Key) × Has l (k ∷ keys) × (x ≡ l.place)
    old later h' = let r = later h' in (r.0, inr r.1, r.2)

    by : (Among x (kept ops keys) → (l : Key) × Has l keys × (x ≡ l.place)) → (x ≡ k.place) ⊎ Among x (kept ops keys) → (l : Key) × Has l (k ∷ keys) × (x ≡ l.place)
    by later (inl same) = (k, inl refl, same)
    by later (inr more) = old later more

    go : (b : Bool) → (is_done ops k.place || is_next k keys) ≡ b → (Among x (kept ops keys) → (l : Key) × Has l keys × (x ≡ l.place)) → (l : Key) × Has l (k ∷ keys) × (x ≡ l.place)
    go true e later = by later (rw e at h)
    go false e later = old later (rw e at h)

at_key : (ops : List Op) (k : Key) → IsKey ops k → key_at ops k.place ≡ numbers k
at_key ops k (a, at, is, may) = key_is ops k.place a at ∙ sym (ap numbers is)

pub sorted_kept : (ops : List Op) (keys : List Key) → Rising keys → ((k : Key) → Has k keys → IsKey ops k) → Sorted ops (kept ops keys)
sorted_kept ops [] rises is = tt
sorted_kept ops (k ∷ keys) rises is = go (is_done ops k.place || is_next k keys) refl (sorted_kept ops keys rises.1 (λ l has. is l (inr has)))
  where
    before : (x : ℕ) → Among x (kept ops keys) → is_lex_less (key_at ops k.place) (key_at ops x) ≡ true
    before x within =
        let l = among_kept ops keys x within in
        let P : List ℕ → List ℕ → Type 0 = λ y z. is_lex_less y z ≡ true in
        subst (λ y. P y (key_at ops x)) (sym (at_key ops k (is k (inl refl)))) (subst (λ z. P (numbers k) z) (sym (ap (key_at ops) l.2 ∙ at_key ops l.0 (is l.0 (inr l.1)))) (rises.0 l.0 l.1))

    go : (b : Bool) → (is_done ops k.place || is_next k keys) ≡ b → Sorted ops (kept ops keys) → Sorted ops (kept ops (k ∷ keys))
    go true e later = rw e (before, later)
    go false e later = rw e later

-- where the next key is of the same tag, it is that of a completed read or row, so that an open write stands
next_open : (ops : List Op) → Tagged ops → (k : Key) (keys : List Key) (a : Op) → At ops k.place a → k ≡ key_of k.place a → may_stand a ≡ true → is_some a.end ≡ false → Rising (k ∷ keys) → ((l : Key) → Has l (k ∷ keys) → IsKey ops l) → is_next k keys ≡ true → IsOrdered ops a
next_open ops tagged k [] a at_a is_a may_a goes rises is h = absurd (true≢false (sym h))
next_open ops tagged k (l ∷ keys) a at_a is_a may_a goes rises is h = by (is l (inr (inl refl)))
  where
    parts : (eqb k.number l.number ≡ true) × (eqb k.session l.session ≡ true)
    parts = and_parts (eqb k.number l.number) (eqb k.session l.session) h

    writes : is_write a ≡ true
    writes = let rest : (is_write a && is_some a.tag) ≡ true = rw goes at may_a in (and_parts (is_write a) (is_some a.tag) rest).0

    apart : k.place ≡ l.place → ⊥
    apart same = true≢false (sym (rises.0 l (inl refl)) ∙ ap (λ z. is_lex_less z (numbers l)) (number_apart k l same ops (is k (inl refl)) (is l (inr (inl refl)))) ∙ lex_self (numbers l))

    by : IsKey ops l → IsOrdered ops a
    by (b, at_b, is_b, may_b) = go (is_write b) refl
      where
        tags : tag_of a ≡ tag_of b
        tags = λ i. record {
          number = (sym (ap (λ z. z.number) is_a) ∙ eqb-true k.number l.number parts.0 ∙ ap (λ z. z.number) is_b) i;
          session = (sym (ap (λ z. z.session) is_a) ∙ eqb-true k.session l.session parts.1 ∙ ap (λ z. z.session) is_b) i;
        }

        tag_a : a.tag ≡ Some (tag_of a)
        tag_a = has_tag ops tagged k.place a at_a may_a

        tag_b : b.tag ≡ Some (tag_of a)
        tag_b = has_tag ops tagged l.place b at_b may_b ∙ ap Some (sym tags)

        go : (w : Bool) → is_write b ≡ w → IsOrdered ops a
        go true w = absurd (apart (tagged.write_tags_differ k.place l.place a b (tag_of a) at_a at_b writes w tag_a tag_b))
        go false w = inr (writes, l.place, b, at_b, completed b may_b w, tag_b ∙ sym tag_a)

stands_kept : (ops : List Op) → Tagged ops → (keys : List Key) → Rising keys → ((k : Key) → Has k keys → IsKey ops k) → (x : ℕ) → Among x (kept ops keys) → (a : Op) × At ops x a × IsOrdered ops a
stands_kept ops tagged [] rises is x h = absurd h
stands_kept ops tagged (k ∷ keys) rises is x h = go (is_done ops k.place || is_next k keys) refl (stands_kept ops tagged keys rises.1 (λ l has. is l (inr has)) x)
  where
    Result : ℕ → Type 0
    Result y = (a : Op) × At ops y a × IsOrdered ops a

    mine : (is_done ops k.place || is_next k keys) ≡ true → IsKey ops k → Result k.place
    mine test (a, at_a, is_a, may_a) = (a, at_a, by (is_some a.end) refl)
      where
        by : (b : Bool) → is_some a.end ≡ b → IsOrdered ops a
        by true e = inl e
        by false e =
            let not_done : is_done ops k.place ≡ false = done_is ops k.place a at_a ∙ e in
            next_open ops tagged k keys a at_a is_a may_a e rises is (rw not_done at test)

    here : (is_done ops k.place || is_next k keys) ≡ true → (Among x (kept ops keys) → Result x) → (x ≡ k.place) ⊎ Among x (kept ops keys) → Result x
    here test later (inl same) = subst Result (sym same) (mine test (is k (inl refl)))
    here test later (inr old) = later old

    go : (b : Bool) → (is_done ops k.place || is_next k keys) ≡ b → (Among x (kept ops keys) → Result x) → Result x
    go true e later = here e later (rw e at h)
    go false e later = later (rw e at h)

-- ---- all that stand are kept

sandwich : (k l b : Key) → is_lex_less (numbers k) (numbers l) ≡ true → is_lex_less (numbers l) (numbers b) ≡ true → k.number ≡ b.number → k.session ≡ b.session → (k.number ≡ l.number) × (k.session ≡ l.session)
sandwich k l b h h' n s = first (lex_cases k.number l.number (k.session ∷ k.rank ∷ k.begin ∷ k.place ∷ []) (l.session ∷ l.rank ∷ l.begin ∷ l.place ∷ []) h) (lex_cases l.number b.number (l.session ∷ l.rank ∷ l.begin ∷ l.place ∷ []) (b.session ∷ b.rank ∷ b.begin ∷ b.place ∷ []) h')
  where
    Low : ℕ → ℕ → List ℕ → List ℕ → Type 0
    Low x y xs ys = (x < y) ⊎ ((x ≡ y) × (is_lex_less xs ys ≡ true))

    second : k.number ≡ l.number → Low k.session l.session (k.rank ∷ k.begin ∷ k.place ∷ []) (l.rank ∷ l.begin ∷ l.place ∷ []) → Low l.session b.session (l.rank ∷ l.begin ∷ l.place ∷ []) (b.rank ∷ b.begin ∷ b.place ∷ []) → (k.number ≡ l.number) × (k.session ≡ l.session)
    second e (inl low) (inl low') = absurd (omega (arith, s))
    second e (inl low) (inr same') = absurd (omega (arith, s, same'.0))
    second e (inr same) other = (e, same.0)

    first : Low k.number l.number (k.session ∷ k.rank ∷ k.begin ∷ k.place ∷ []) (l.session ∷ l.rank ∷ l.begin ∷ l.place ∷ []) → Low l.number b.number (l.session ∷ l.rank ∷ l.begin ∷ l.place ∷ []) (b.session ∷ b.rank ∷ b.begin ∷ b.place ∷ []) → (k.number ≡ l.number) × (k.session ≡ l.session)
    first (inl low) (inl low') = absurd (omega (arith, n))
    first (inl low) (inr same') = absurd (omega (arith, n, same'.0))
    first (inr same) (inl low') = absurd (omega (arith, n, same.0))
    first (inr same) (inr same') = second same.0 (lex_cases k.session l.session (k.rank ∷ k.begin ∷ k.place ∷ []) (l.rank ∷ l.begin ∷ l.place ∷ []) same.1) (lex_cases l.session b.session (l.rank ∷ l.begin ∷ l.place ∷ []) (b.rank ∷ b.begin ∷ b.place ∷ []) same'.1)

next_is : (k b : Key) (keys : List Key) → Rising (k ∷ keys) → Has b keys → k.number ≡ b.number → k.session ≡ b.session → is_next k keys ≡ true
next_is k b [] rises has n s = absurd has
next_is k b (l ∷ keys) rises has n s = go has
  where
    both : (k.number ≡ l.number) × (k.session ≡ l.session) → is_next k (l ∷ keys) ≡ true
    both e = and_from (eqb k.number l.number) (eqb k.session l.session) (eq-eqb k.number l.number e.0) (eq-eqb k.session l.session e.1)

    go : (b ≡ l) ⊎ Has b keys → is_next k (l ∷ keys) ≡ true
    go (inl same) = both (n ∙ ap (λ z. z.number) same, s ∙ ap (λ z. z.session) same)
    go (inr old) = both (sandwich k l b (rises.0 l (inl refl)) (rises.1.0 b old) n s)

-- each later key of an operation that may stand is in the list
abbrev HasLater : List Op → List Key → Type 0
HasLater ops keys = (k : Key) → Has k keys → (l : Key) → IsKey ops l → is_lex_less (numbers k) (numbers l) ≡ true → Has l keys

tag_same : (a b : Op) → b.tag ≡ a.tag → tag_of b ≡ tag_of a
tag_same a b same = rw same refl

stands_keeps : (ops : List Op) → Tagged ops → (k : Key) (keys : List Key) (a : Op) → At ops k.place a → k ≡ key_of k.place a → Rising (k ∷ keys) → HasLater ops (k ∷ keys) → IsOrdered ops a → (is_done ops k.place || is_next k keys) ≡ true
stands_keeps ops tagged k keys a at_a is_a rises all stands = go (is_some a.end) refl stands
  where
    go : (e : Bool) → is_some a.end ≡ e → IsOrdered ops a → (is_done ops k.place || is_next k keys) ≡ true
    go true e s = or_left (is_done ops k.place) (is_next k keys) (done_is ops k.place a at_a ∙ e)
    go false e (inl ended) = absurd (true≢false (sym ended ∙ e))
    go false e (inr (writes, j, b, at_b, ended, same)) = or_right (is_done ops k.place) (is_next k keys) (by (is_write b) refl)
      where
        may_b : may_stand b ≡ true
        may_b = or_left (is_some b.end) (is_write b && is_some b.tag) ended

        tag_b : b.tag ≡ Some (tag_of b)
        tag_b = has_tag ops tagged j b at_b may_b

        tags : tag_of b ≡ tag_of a
        tags = tag_same a b same

        l : Key
        l = key_of j b

        n : k.number ≡ l.number
        n = ap (λ z. z.number) is_a ∙ ap (λ z. z.number) (sym tags)

        s : k.session ≡ l.session
        s = ap (λ z. z.session) is_a ∙ ap (λ z. z.session) (sym tags)

        low : is_write b ≡ false → is_lex_less (numbers k) (numbers l) ≡ true
        low w =
            let first : k.rank ≡ 0 = ap (λ z. z.rank) is_a ∙ (rw writes refl) in
            let second : l.rank ≡ 1 = rw w refl in
            lex_same k.number l.number (k.session ∷ k.rank ∷ k.begin ∷ k.place ∷ []) (l.session ∷ l.rank ∷ l.begin ∷ l.place ∷ []) n
            (lex_same k.session l.session (k.rank ∷ k.begin ∷ k.place ∷ []) (l.rank ∷ l.begin ∷ l.place ∷ []) s
            (lex_less k.rank l.rank (k.begin ∷ k.place ∷ []) (l.begin ∷ l.place ∷ []) (omega (arith, first, second))))

        there : is_write b ≡ false → (l ≡ k) ⊎ Has l keys → is_next k keys ≡ true
        there w (inl equal) = absurd (true≢false (sym (low w) ∙ ap (λ z. is_lex_less (numbers k) (numbers z)) equal ∙ lex_self (numbers k)))
        there w (inr old) = next_is k l keys rises old n s

        by : (w : Bool) → is_write b ≡ w → is_next k keys ≡ true
        by true w = absurd (
            let place : j ≡ k.place = tagged.write_tags_differ j k.place b a (tag_of b) at_b at_a w writes tag_b (sym same ∙ tag_b) in
            let both : Some b ≡ Some a = sym at_b ∙ ap (slice_get ops) place ∙ at_a in
            let equal : b ≡ a = cc in
            true≢false (sym ended ∙ ap (λ z. is_some z.end) equal ∙ e))
        by false w = there w (all k (inl refl) l (b, at_b, refl, may_b) (low w))

all_kept : (ops : List Op) → Tagged ops → (keys : List Key) → Rising keys → ((k : Key) → Has k keys → IsKey ops k) → HasLater ops keys → (k : Key) → Has k keys → (a : Op) → At ops k.place a → IsOrdered ops a → Among k.place (kept ops keys)
all_kept ops tagged [] rises is all k has a at stands = absurd has
all_kept ops tagged (m ∷ keys) rises is all k has a at stands = go has (λ old. all_kept ops tagged keys rises.1 (λ l h. is l (inr h)) tail k old a at stands)
  where
    tail : HasLater ops keys
    tail x x_in l l_is low = by (all x (inr x_in) l l_is low)
      where
        by : (l ≡ m) ⊎ Has l keys → Has l keys
        by (inl same) = absurd (true≢false (sym (lex_trans (numbers m) (numbers x) (numbers m) (rises.0 x x_in) (ap (λ z. is_lex_less (numbers x) (numbers z)) (sym same) ∙ low)) ∙ lex_self (numbers m)))
        by (inr old) = old

    first : k ≡ m → IsKey ops m → (is_done ops m.place || is_next m keys) ≡ true
    first same (b, at_b, is_b, may_b) =
        let both : Some b ≡ Some a = sym at_b ∙ ap (slice_get ops) (ap (λ z. z.place) (sym same)) ∙ at in
        let equal : b ≡ a = cc in
        let P : Op → Type 0 = λ z. IsOrdered ops z in
        stands_keeps ops tagged m keys b at_b is_b rises all (subst P (sym equal) stands)

    later : (b : Bool) → (is_done ops m.place || is_next m keys) ≡ b → Among k.place (kept ops keys) → Among k.place (kept ops (m ∷ keys))
    later true e h = rw e (inr h)
    later false e h = rw e h

    go : (k ≡ m) ⊎ Has k keys → (Has k keys → Among k.place (kept ops keys)) → Among k.place (kept ops (m ∷ keys))
    go (inl same) ih = let test = first same (is m (inl refl)) in rw test (inl (ap (λ z. z.place) same))
    go (inr old) ih = later (is_done ops m.place || is_next m keys) refl (ih old)

-- ---- the order

stands_may : (ops : List Op) → Tagged ops → (a : Op) → IsOrdered ops a → may_stand a ≡ true
stands_may ops tagged a (inl ended) = or_left (is_some a.end) (is_write a && is_some a.tag) ended
stands_may ops tagged a (inr (writes, j, b, at_b, ended, same)) =
    or_right (is_some a.end) (is_write a && is_some a.tag) (and_from (is_write a) (is_some a.tag) writes (ap is_some (sym same) ∙ tagged.completed j b at_b ended))

pub kept_is : (ops : List Op) (keys : List Key) → IsPermutation (candidates 0 ops) keys → IsSorted key_cmp keys → Tagged ops → IsOrder ops (kept ops keys)
kept_is ops keys perm sorted tagged = record {
  stands = λ m i at. stands_kept ops tagged keys rises is i (among_at (kept ops keys) m i at);
  all = λ i a at s. at_among (kept ops keys) i (all_kept ops tagged keys rises is (λ k k_in l l_is low. has l l_is) (key_of i a) (has (key_of i a) (a, at, refl, stands_may ops tagged a s)) a at s);
  in_order = λ m n i j a b low at_m at_n at_a at_b. before_from i j a b
      (let P : List ℕ → List ℕ → Type 0 = λ y z. is_lex_less y z ≡ true in subst (λ y. P y (key j b)) (key_is ops i a at_a) (subst (λ z. P (key_at ops i) z) (key_is ops j b at_b) (sorted_at ops (kept ops keys) m n i j (sorted_kept ops keys rises is) low at_m at_n)));
}
  where
    zero_plus : (i : ℕ) → 0 + i ≡ i
    zero_plus i = omega arith

    is : (k : Key) → Has k keys → IsKey ops k
    is = has_all (IsKey ops) keys (All-permutation (IsKey ops) (candidates 0 ops) keys perm (all_has (IsKey ops) (candidates 0 ops) (λ k h. (candidate_is ops ops 0 (rest_whole ops) k h).0)))

    has : (k : Key) → IsKey ops k → Has k keys
    has k (a, at, k_is, may) =
        let P : Key → Type 0 = λ z. Has z keys in
        let found = has_all P (candidates 0 ops) (All-permutation P keys (candidates 0 ops) (IsPermutation-sym (candidates 0 ops) keys perm) (all_has P keys (λ z h. h))) (key_of (0 + k.place) a) (candidate_all ops ops 0 k.place a at may) in
        subst P (ap (λ z. key_of z a) (zero_plus k.place) ∙ sym k_is) found

    rises : Rising keys
    rises = rising keys sorted (λ i. let same = counted_is i keys ∙ sum_by-IsPermutation (at_place i) (candidates 0 ops) keys perm ∙ sym (counted_is i (candidates 0 ops)) in let most = once ops 0 i in omega (arith, same, most))

-- the same of equal lists
pub order_from_kept : (ops : List Op) (before keys read : List Key) (places : List ℕ) → before ≡ candidates 0 ops → IsPermutation before keys → IsSorted key_cmp keys → read ≡ keys → places ≡ kept ops read → Tagged ops → IsOrder ops places
order_from_kept ops before keys read places from perm sorted same is tagged =
    let P : List Key → Type 0 = λ z. IsPermutation z keys in
    let Q : List ℕ → Type 0 = λ z. IsOrder ops z in
    subst Q (sym (is ∙ ap (kept ops) same)) (kept_is ops keys (subst P from perm) sorted tagged)
