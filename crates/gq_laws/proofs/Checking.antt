-- The test of an order is true exactly where the order is legal.
use Rattle.std.proofs.Common.{◌≡◌, ◌⊎◌, ℕ, zero, suc, ◌+◌, ◌<◌, ◌≤◌, max, Bool, true, false, ◌&&◌, ◌||◌, List, [], ◌∷◌, length, refl, sym, ap, ◌∙◌, inl, inr, Option, Some, None, arith, is_some, eqb}
use Rattle.std.specs.Prelude.{Contains, slice_get, slice_index, IsSome, not}
use Rattle.std.specs.Bool.{Decides}
use Rattle.std.specs.List.{list_all}
use Rattle.std.proofs.lemmas.Bool.{cases_lt, true≢false, and_parts, and_from, or_left, or_right, not-true, eqb-true, eq-eqb, leb-true, le-leb}
use Rattle.std.proofs.lemmas.Option.{slice_get-get_or}
use Rattle.std.proofs.lemmas.Slice.Eq.{bytes_eq-Decides}
use Rattle.gq_laws.specs.declared.ops.Kind.{Kind}
use Rattle.gq_laws.specs.declared.ops.Kind.TheVariants.{Write as Writes, Read as Reads, Row as Rows}
use Rattle.gq_laws.specs.declared.ops.Op.{Op}
use Rattle.gq_laws.specs.Operations.{At, is_write, Gives, Precedes, RegisterGives, ops_at, Legal}
use Rattle.gq_laws.specs.Checks.{has_place, is_once, is_allowed, is_whole, is_open_at, is_in_order, gives, register_gives, is_legal, ChecksDecide}

-- ---- places in a list

at_below : {X : Type 0} (xs : List X) (m : ℕ) (x : X) → slice_get xs m ≡ Some x → m < length xs
at_below [] m x h = absurd (let bad : None ≡ Some x = h in cc)
at_below (y ∷ xs) zero x h = omega arith
at_below (y ∷ xs) (suc m) x h = let later = at_below xs m x h in omega arith

index_is : (places : List ℕ) (m i : ℕ) → slice_get places m ≡ Some i → slice_index places m ≡ i
index_is [] m i h = absurd (let bad : None ≡ Some i = h in cc)
index_is (x ∷ places) zero i h = let same : x ≡ i = cc in same
index_is (x ∷ places) (suc m) i h = index_is places m i h

get_is : (places : List ℕ) (m : ℕ) → m < length places → slice_get places m ≡ Some (slice_index places m)
get_is places m low = slice_get-get_or places m 0 low

pub within : (places : List ℕ) (m i : ℕ) → slice_get places m ≡ Some i → Contains places i
within [] m i h = absurd (let bad : None ≡ Some i = h in cc)
within (x ∷ places) zero i h = (0, omega arith, (let same : x ≡ i = cc in same))
within (x ∷ places) (suc m) i h = let later = within places m i h in (suc later.0, omega (arith, later.1), later.2)

pub place_in : (places : List ℕ) (i : ℕ) → Contains places i → (m : ℕ) × (slice_get places m ≡ Some i)
place_in [] i h = absurd (omega (arith, h.1))
place_in (x ∷ places) i (zero, low, is) = (0, ap Some is)
place_in (x ∷ places) i (suc m, low, is) = let later = place_in places i (m, omega arith, is) in (suc later.0, later.1)

pub has_from : (places : List ℕ) (m i : ℕ) → slice_get places m ≡ Some i → has_place places i ≡ true
has_from [] m i h = absurd (let bad : None ≡ Some i = h in cc)
has_from (x ∷ places) zero i h = or_left (eqb x i) (has_place places i) (eq-eqb x i (let same : x ≡ i = cc in same))
has_from (x ∷ places) (suc m) i h = or_right (eqb x i) (has_place places i) (has_from places m i h)

pub has_at : (places : List ℕ) (i : ℕ) → has_place places i ≡ true → (m : ℕ) × (slice_get places m ≡ Some i)
has_at [] i h = absurd (true≢false (sym h))
has_at (x ∷ places) i h = go (eqb x i) refl (has_at places i)
  where
    go : (b : Bool) → eqb x i ≡ b → (has_place places i ≡ true → (m : ℕ) × (slice_get places m ≡ Some i)) → (m : ℕ) × (slice_get (x ∷ places) m ≡ Some i)
    go true e later = (0, ap Some (eqb-true x i e))
    go false e later = let found = later (rw e at h) in (suc found.0, found.1)

-- ---- once

pub once_from : (places : List ℕ) → is_once places ≡ true → (m n i : ℕ) → slice_get places m ≡ Some i → slice_get places n ≡ Some i → m ≡ n
once_from [] h m n i at_m at_n = absurd (let bad : None ≡ Some i = at_m in cc)
once_from (x ∷ places) h m n i at_m at_n = go m n at_m at_n (once_from places parts.1)
  where
    parts : (not (has_place places x) ≡ true) × (is_once places ≡ true)
    parts = and_parts (not (has_place places x)) (is_once places) h

    alone : (n : ℕ) → x ≡ i → slice_get places n ≡ Some i → ⊥
    alone n same at = true≢false (sym (has_from places n x (at ∙ ap Some (sym same))) ∙ not-true (has_place places x) parts.0)

    go : (m n : ℕ) → slice_get (x ∷ places) m ≡ Some i → slice_get (x ∷ places) n ≡ Some i → ((m n i : ℕ) → slice_get places m ≡ Some i → slice_get places n ≡ Some i → m ≡ n) → m ≡ n
    go zero zero at_m at_n later = refl
    go zero (suc n) at_m at_n later = absurd (alone n (let same : x ≡ i = cc in same) at_n)
    go (suc m) zero at_m at_n later = absurd (alone m (let same : x ≡ i = cc in same) at_m)
    go (suc m) (suc n) at_m at_n later = ap suc (later m n i at_m at_n)

pub once_to : (places : List ℕ) → ((m n i : ℕ) → slice_get places m ≡ Some i → slice_get places n ≡ Some i → m ≡ n) → is_once places ≡ true
once_to [] each = refl
once_to (x ∷ places) each = and_from (not (has_place places x)) (is_once places) (go (has_place places x) refl) (once_to places (λ m n i at_m at_n. down m n (each (suc m) (suc n) i at_m at_n)))
  where
    down : (m n : ℕ) → suc m ≡ suc n → m ≡ n
    down m n e = omega arith

    go : (b : Bool) → has_place places x ≡ b → not (has_place places x) ≡ true
    go true e = absurd (let found = has_at places x e in let bad = each 0 (suc found.0) x refl found.1 in omega arith)
    go false e = rw e refl

-- ---- allowed

-- an operation stands at the place that is completed or a write
abbrev IsAllowed : List Op → ℕ → Type 0
IsAllowed ops i = (a : Op) × At ops i a × (IsSome a.end ⊎ (is_write a ≡ true))

allowed_is : (ops : List Op) (i : ℕ) → Decides (is_allowed ops i) (IsAllowed ops i)
allowed_is ops i = (λ h. from (slice_get ops i) refl h, to)
  where
    kind : (a : Op) → (b : Bool) → is_some a.end ≡ b → (is_some a.end || is_write a) ≡ true → IsSome a.end ⊎ (is_write a ≡ true)
    kind a true e h = inl e
    kind a false e h = inr (rw e at h)

    from : (o : Option Op) → slice_get ops i ≡ o → is_allowed ops i ≡ true → IsAllowed ops i
    from None e h = absurd (true≢false (sym (rw e at h)))
    from (Some a) e h = (a, e, kind a (is_some a.end) refl (rw e at h))

    test : (a : Op) → IsSome a.end ⊎ (is_write a ≡ true) → (is_some a.end || is_write a) ≡ true
    test a (inl ended) = or_left (is_some a.end) (is_write a) ended
    test a (inr writes) = or_right (is_some a.end) (is_write a) writes

    to : IsAllowed ops i → is_allowed ops i ≡ true
    to (a, at, may) = rw at (test a may)

all_from : (p : ℕ → Bool) (places : List ℕ) → list_all p places ≡ true → (m i : ℕ) → slice_get places m ≡ Some i → p i ≡ true
all_from p [] h m i at = absurd (let bad : None ≡ Some i = at in cc)
all_from p (x ∷ places) h zero i at = let parts = and_parts (p x) (list_all p places) h in let same : x ≡ i = cc in ap p (sym same) ∙ parts.0
all_from p (x ∷ places) h (suc m) i at = let parts = and_parts (p x) (list_all p places) h in all_from p places parts.1 m i at

all_to : (p : ℕ → Bool) (places : List ℕ) → ((m i : ℕ) → slice_get places m ≡ Some i → p i ≡ true) → list_all p places ≡ true
all_to p [] each = refl
all_to p (x ∷ places) each = and_from (p x) (list_all p places) (each 0 x refl) (all_to p places (λ m i at. each (suc m) i at))

-- ---- whole

pub whole_from : (places : List ℕ) (n : ℕ) (ops : List Op) → is_whole places n ops ≡ true → (i : ℕ) (a : Op) → At ops i a → IsSome a.end → has_place places (n + i) ≡ true
whole_from places n [] h i a at ended = absurd (let bad : None ≡ Some a = at in cc)
whole_from places n (b ∷ ops) h zero a at ended =
    let parts = and_parts (not (is_some b.end) || has_place places n) (is_whole places (n + 1) ops) h in
    let same : b ≡ a = cc in
    let here : is_some b.end ≡ true = ap (λ z. is_some z.end) same ∙ ended in
    let found : has_place places n ≡ true = rw here at parts.0 in
    ap (has_place places) (none n) ∙ found
  where
    none : (n : ℕ) → n + 0 ≡ n
    none n = omega arith
whole_from places n (b ∷ ops) h (suc i) a at ended =
    let parts = and_parts (not (is_some b.end) || has_place places n) (is_whole places (n + 1) ops) h in
    ap (has_place places) (next n i) ∙ whole_from places (n + 1) ops parts.1 i a at ended
  where
    next : (n i : ℕ) → n + suc i ≡ n + 1 + i
    next n i = omega arith

pub whole_to : (places : List ℕ) (n : ℕ) (ops : List Op) → ((i : ℕ) (a : Op) → At ops i a → IsSome a.end → has_place places (n + i) ≡ true) → is_whole places n ops ≡ true
whole_to places n [] each = refl
whole_to places n (b ∷ ops) each =
    and_from (not (is_some b.end) || has_place places n) (is_whole places (n + 1) ops)
    (go (is_some b.end) refl)
    (whole_to places (n + 1) ops (λ i a at ended. ap (has_place places) (next n i) ∙ each (suc i) a at ended))
  where
    next : (n i : ℕ) → n + 1 + i ≡ n + suc i
    next n i = omega arith

    none : (n : ℕ) → n ≡ n + 0
    none n = omega arith

    go : (e : Bool) → is_some b.end ≡ e → (not (is_some b.end) || has_place places n) ≡ true
    go true e = or_right (not (is_some b.end)) (has_place places n) (ap (has_place places) (none n) ∙ each 0 b refl e)
    go false e = rw e refl

-- ---- the operations at the places

-- at each of the places
abbrev AllAllowed : List Op → List ℕ → Type 0
AllAllowed ops places = (m i : ℕ) → slice_get places m ≡ Some i → IsAllowed ops i

at_ops : (ops : List Op) (places : List ℕ) → AllAllowed ops places → (m i : ℕ) → slice_get places m ≡ Some i → slice_get (ops_at ops places) m ≡ slice_get ops i
at_ops ops [] all m i at = absurd (let bad : None ≡ Some i = at in cc)
at_ops ops (x ∷ places) all m i at = go m at (all 0 x refl) (at_ops ops places (λ m i at. all (suc m) i at))
  where
    go : (m : ℕ) → slice_get (x ∷ places) m ≡ Some i → IsAllowed ops x → ((m i : ℕ) → slice_get places m ≡ Some i → slice_get (ops_at ops places) m ≡ slice_get ops i) → slice_get (ops_at ops (x ∷ places)) m ≡ slice_get ops i
    go zero at (a, at_x, may) later = let same : x ≡ i = cc in rw at_x (sym at_x ∙ ap (slice_get ops) same)
    go (suc m) at (a, at_x, may) later = rw at_x (later m i at)

ops_from : (ops : List Op) (places : List ℕ) → AllAllowed ops places → (m : ℕ) (a : Op) → slice_get (ops_at ops places) m ≡ Some a → (i : ℕ) × (slice_get places m ≡ Some i) × At ops i a
ops_from ops [] all m a at = absurd (let bad : None ≡ Some a = at in cc)
ops_from ops (x ∷ places) all m a at = go m at (all 0 x refl) (ops_from ops places (λ m i at. all (suc m) i at))
  where
    go : (m : ℕ) → slice_get (ops_at ops (x ∷ places)) m ≡ Some a → IsAllowed ops x → ((m : ℕ) (a : Op) → slice_get (ops_at ops places) m ≡ Some a → (i : ℕ) × (slice_get places m ≡ Some i) × At ops i a) → (i : ℕ) × (slice_get (x ∷ places) m ≡ Some i) × At ops i a
    go zero at (b, at_x, may) later = let first : Some b ≡ Some a = rw at_x at at in (x, refl, at_x ∙ first)
    go (suc m) at (b, at_x, may) later = later m a (rw at_x at at)

-- ---- in order

-- no operation of the list ends before this place
abbrev EndsFrom : ℕ → List Op → Type 0
EndsFrom begun os = (m e : ℕ) (a : Op) → slice_get os m ≡ Some a → a.end ≡ Some e → begun ≤ e

-- none ends before one begins that does not stand after it
abbrev InOrder : List Op → Type 0
InOrder os = (m n e : ℕ) (a b : Op) → slice_get os m ≡ Some a → slice_get os n ≡ Some b → n ≤ m → a.end ≡ Some e → b.begin ≤ e

open_from : (place e : ℕ) (end : Option ℕ) → is_open_at place end ≡ true → end ≡ Some e → place ≤ e
open_from place e None h is = absurd (let bad : None ≡ Some e = is in cc)
open_from place e (Some d) h is = let same : d ≡ e = cc in let low = leb-true place d h in omega arith

open_to : (place : ℕ) (end : Option ℕ) → ((e : ℕ) → end ≡ Some e → place ≤ e) → is_open_at place end ≡ true
open_to place None each = refl
open_to place (Some e) each = le-leb place e (each e refl)

order_from : (begun : ℕ) (os : List Op) → is_in_order begun os ≡ true → EndsFrom begun os × InOrder os
order_from begun [] h = (λ m e a at is. absurd (let bad : None ≡ Some a = at in cc), λ m n e a b at_m at_n low is. absurd (let bad : None ≡ Some a = at_m in cc))
order_from begun (x ∷ os) h = join (order_from (max begun x.begin) os parts.1)
  where
    high : ℕ
    high = max begun x.begin

    parts : (is_open_at high x.end ≡ true) × (is_in_order high os ≡ true)
    parts = and_parts (is_open_at high x.end) (is_in_order high os) h

    here : (e : ℕ) (a : Op) → x ≡ a → a.end ≡ Some e → high ≤ e
    here e a same is = open_from high e x.end parts.0 (ap (λ z. z.end) same ∙ is)

    ends : EndsFrom high os × InOrder os → EndsFrom begun (x ∷ os)
    ends later zero e a at is = let low = here e a (let same : x ≡ a = cc in same) is in omega arith
    ends later (suc m) e a at is = let low = later.0 m e a at is in omega arith

    order : EndsFrom high os × InOrder os → InOrder (x ∷ os)
    order later zero zero e a b at_m at_n low is =
        let low' = here e a (let same : x ≡ a = cc in same) is in
        let same : x ≡ b = cc in
        let begins : x.begin ≡ b.begin = ap (λ z. z.begin) same in
        omega arith
    order later zero (suc n) e a b at_m at_n low is = absurd (omega arith)
    order later (suc m) zero e a b at_m at_n low is =
        let low' = later.0 m e a at_m is in
        let same : x ≡ b = cc in
        let begins : x.begin ≡ b.begin = ap (λ z. z.begin) same in
        omega arith
    order later (suc m) (suc n) e a b at_m at_n low is = later.1 m n e a b at_m at_n (omega arith) is

    join : EndsFrom high os × InOrder os → EndsFrom begun (x ∷ os) × InOrder (x ∷ os)
    join later = (ends later, order later)

order_to : (begun : ℕ) (os : List Op) → EndsFrom begun os → InOrder os → is_in_order begun os ≡ true
order_to begun [] ends order = refl
order_to begun (x ∷ os) ends order =
    and_from (is_open_at high x.end) (is_in_order high os)
    (open_to high x.end (λ e is. both e (ends 0 e x refl is) (order 0 0 e x x refl refl (omega arith) is)))
    (order_to high os
    (λ m e a at is. both e (ends (suc m) e a at is) (order (suc m) 0 e a x at refl (omega arith) is))
    (λ m n e a b at_m at_n low is. order (suc m) (suc n) e a b at_m at_n (omega arith) is))
  where
    high : ℕ
    high = max begun x.begin

    both : (e : ℕ) → begun ≤ e → x.begin ≤ e → high ≤ e
    both e low low' = omega arith

-- ---- the register

gives_is : (a : Op) (bytes : List ℕ) → Decides (gives a bytes) (Gives a bytes)
gives_is a bytes = go a.kind refl
  where
    go : (k : Kind) → a.kind ≡ k → Decides (gives a bytes) (Gives a bytes)
    go (Writes written) is = rw is (λ h. absurd (true≢false (sym h)), λ h. absurd h)
    go (Reads None) is = rw is (λ h. absurd (true≢false (sym h)), λ h. absurd h)
    go (Reads (Some given)) is = rw is (bytes_eq-Decides given bytes)
    go (Rows None) is = rw is (λ h. absurd (true≢false (sym h)), λ h. absurd h)
    go (Rows (Some given)) is = rw is (eqb-true given (length bytes), eq-eqb given (length bytes))

register_is : (os : List Op) (bytes : List ℕ) → Decides (register_gives os bytes) (RegisterGives os bytes)
register_is [] bytes = (λ h. tt, λ h. refl)
register_is (a ∷ os) bytes = go a.kind refl (register_is os)
  where
    both : is_write a ≡ false → Decides (register_gives os bytes) (RegisterGives os bytes) → Decides (gives a bytes && register_gives os bytes) ((is_write a ≡ false → Gives a bytes) × RegisterGives os bytes)
    both reads later = (
      λ h. let parts = and_parts (gives a bytes) (register_gives os bytes) h in ((λ _. (gives_is a bytes).0 parts.0), later.0 parts.1),
      λ h. and_from (gives a bytes) (register_gives os bytes) ((gives_is a bytes).1 (h.0 reads)) (later.1 h.1),
    )

    go : (k : Kind) → a.kind ≡ k → ((bytes : List ℕ) → Decides (register_gives os bytes) (RegisterGives os bytes)) → Decides (register_gives (a ∷ os) bytes) (RegisterGives (a ∷ os) bytes)
    go (Writes written) is later = rw is ((λ h. ((λ reads. absurd (true≢false reads)), (later written).0 h)), λ h. (later written).1 h.1)
    go (Reads gave) is later = let reads : is_write a ≡ false = rw is refl in let h = both reads (later bytes) in rw is (rw is at h)
    go (Rows gave) is later = let reads : is_write a ≡ false = rw is refl in let h = both reads (later bytes) in rw is (rw is at h)

-- ---- the whole test

zero_more : (i : ℕ) → i ≡ 0 + i
zero_more i = omega arith

legal_from : (ops : List Op) (places : List ℕ) → is_once places ≡ true → list_all (is_allowed ops) places ≡ true → is_whole places 0 ops ≡ true → is_in_order 0 (ops_at ops places) ≡ true → register_gives (ops_at ops places) [] ≡ true → Legal ops places
legal_from ops places once_is allowed whole order_is register = record {
  once = λ m n low_m low_n same. once_from places once_is m n (slice_index places n) (get_is places m low_m ∙ ap Some same) (get_is places n low_n);
  allowed = λ i inside. let found = place_in places i inside in all found.0 i found.1;
  whole = λ i a at ended. let found = has_at places i (ap (has_place places) (zero_more i) ∙ whole_from places 0 ops whole i a at ended) in within places found.0 i found.1;
  in_order = λ m n a b low_m low_n at_a at_b before. in_order m n a b low_m low_n at_a at_b before (cases_lt m n);
  register = (register_is (ops_at ops places) []).0 register;
}
  where
    all : AllAllowed ops places
    all m i at = (allowed_is ops i).0 (all_from (is_allowed ops) places allowed m i at)

    in_order : (m n : ℕ) (a b : Op) → m < length places → n < length places → At ops (slice_index places m) a → At ops (slice_index places n) b → Precedes a b → (m < n) ⊎ (n ≤ m) → m < n
    in_order m n a b low_m low_n at_a at_b before (inl low) = low
    in_order m n a b low_m low_n at_a at_b (e, ends, low) (inr high) = absurd (
        let both = order_from 0 (ops_at ops places) order_is in
        let first = at_ops ops places all m (slice_index places m) (get_is places m low_m) ∙ at_a in
        let second = at_ops ops places all n (slice_index places n) (get_is places n low_n) ∙ at_b in
        let least = both.1 m n e a b first second high ends in
        omega arith)

legal_order : (ops : List Op) (places : List ℕ) → Legal ops places → is_in_order 0 (ops_at ops places) ≡ true
legal_order ops places legal = order_to 0 (ops_at ops places) (λ m e a at is. omega arith) (λ m n e a b at_m at_n low is. by m n e a b (ops_from ops places all m a at_m) (ops_from ops places all n b at_n) low is (cases_lt e b.begin))
  where
    all : AllAllowed ops places
    all m i at = legal.allowed i (within places m i at)

    index : (m i : ℕ) (a : Op) → slice_get places m ≡ Some i → At ops i a → At ops (slice_index places m) a
    index m i a at at_a = ap (slice_get ops) (index_is places m i at) ∙ at_a

    by : (m n e : ℕ) (a b : Op) → (i : ℕ) × (slice_get places m ≡ Some i) × At ops i a → (j : ℕ) × (slice_get places n ≡ Some j) × At ops j b → n ≤ m → a.end ≡ Some e → (e < b.begin) ⊎ (b.begin ≤ e) → b.begin ≤ e
    by m n e a b first second low is (inr fine) = fine
    by m n e a b (i, at_i, at_a) (j, at_j, at_b) low is (inl sooner) = absurd (
        let less = legal.in_order m n a b (at_below places m i at_i) (at_below places n j at_j) (index m i a at_i at_a) (index n j b at_j at_b) (e, is, sooner) in
        omega arith)

legal_to : (ops : List Op) (places : List ℕ) → Legal ops places → is_legal ops places ≡ true
legal_to ops places legal =
    and_from (is_once places) (list_all (is_allowed ops) places && (is_whole places 0 ops && (is_in_order 0 os && register_gives os [])))
    (once_to places once)
    (and_from (list_all (is_allowed ops) places) (is_whole places 0 ops && (is_in_order 0 os && register_gives os []))
    (all_to (is_allowed ops) places (λ m i at. (allowed_is ops i).1 (legal.allowed i (within places m i at))))
    (and_from (is_whole places 0 ops) (is_in_order 0 os && register_gives os [])
    (whole_to places 0 ops whole)
    (and_from (is_in_order 0 os) (register_gives os []) (legal_order ops places legal) ((register_is os []).1 legal.register))))
  where
    os : List Op
    os = ops_at ops places

    once : (m n i : ℕ) → slice_get places m ≡ Some i → slice_get places n ≡ Some i → m ≡ n
    once m n i at_m at_n = legal.once m n (at_below places m i at_m) (at_below places n i at_n) (index_is places m i at_m ∙ sym (index_is places n i at_n))

    whole : (i : ℕ) (a : Op) → At ops i a → IsSome a.end → has_place places (0 + i) ≡ true
    whole i a at ended =
        let found = place_in places i (legal.whole i a at ended) in
        ap (has_place places) (sym (zero_more i)) ∙ has_from places found.0 i found.1

pub checks_decide : ChecksDecide
checks_decide ops places = (from, legal_to ops places)
  where
    from : is_legal ops places ≡ true → Legal ops places
    from h =
        let os : List Op = ops_at ops places in
        let one = and_parts (is_once places) (list_all (is_allowed ops) places && (is_whole places 0 ops && (is_in_order 0 os && register_gives os []))) h in
        let two = and_parts (list_all (is_allowed ops) places) (is_whole places 0 ops && (is_in_order 0 os && register_gives os [])) one.1 in
        let three = and_parts (is_whole places 0 ops) (is_in_order 0 os && register_gives os []) two.1 in
        let four = and_parts (is_in_order 0 os) (register_gives os []) three.1 in
        legal_from ops places one.0 two.0 three.0 four.0 four.1
