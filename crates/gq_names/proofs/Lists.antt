-- Lists of pending writes, and lines that rise.
use Rattle.std.proofs.Common.{◌≡◌, ◌≢◌, ◌⊎◌, ℕ, zero, suc, ◌<◌, ◌≤◌, max, Bool, true, false, List, [], ◌∷◌, ◌++◌, refl, sym, ap, ◌∙◌, subst, inl, inr, Some, None, arith}
use Rattle.std.specs.Prelude.{slice_get}
use Rattle.std.proofs.lemmas.Bool.{cases_eq, cases_lt, and_parts}
use Rattle.gq_tag.specs.declared.Tag.{Tag}
use Rattle.gq_tag.specs.declared.StoredCopy.{StoredCopy}
use Rattle.gq_tag.specs.Tag.{first_tag, first_copy, is_less, newer_of}
use Rattle.gq_names.specs.Names.{Page, all_below, behind, greatest_of, greatest_number}
use Rattle.gq_names.specs.Contents.{Each}
use Rattle.gq_names.specs.Laws.{IsRisen, Rises}
use Rattle.gq_tag.proofs.Order.{IsAtMost, at_most_refl, at_most_trans, at_most_from, less_at_most, at_most_less, newer_of-left, newer_of-right}

-- ---- lines

pub risen_trans : (a b c : StoredCopy) → IsRisen a b → IsRisen b c → IsRisen a c
risen_trans a b c (inl e) k = let P : StoredCopy → Type 0 = λ z. IsRisen z c in subst P (sym e) k
risen_trans a b c (inr h) (inl e) = inr (let P : StoredCopy → Type 0 = λ z. is_less a.tag z.tag ≡ true in subst P e h)
risen_trans a b c (inr h) (inr k) = inr (at_most_less a.tag b.tag c.tag (less_at_most a.tag b.tag h) k)

pub risen_at_most : (a b : StoredCopy) → IsRisen a b → IsAtMost a.tag b.tag
risen_at_most a b (inl e) = let P : StoredCopy → Type 0 = λ z. IsAtMost a.tag z.tag in subst P e (at_most_refl a.tag)
risen_at_most a b (inr h) = less_at_most a.tag b.tag h

-- the first tag is at most each
pub first_least : (x : Tag) → IsAtMost first_tag x
first_least x = at_most_from x first_tag (by (cases_lt 0 x.number))
  where
    by : (0 < x.number) ⊎ (x.number ≤ 0) → (0 < x.number) ⊎ ((x.number ≡ 0) × (0 ≤ x.session))
    by (inl more) = inl more
    by (inr none) = inr (omega arith, omega arith)

pub rises_refl : (x : Page) → Rises x x
rises_refl x name = inl refl

pub rises_trans : (x y z : Page) → Rises x y → Rises y z → Rises x z
rises_trans x y z h k name = risen_trans (x.line name) (y.line name) (z.line name) (h name) (k name)

-- ---- lists

pub each_at : {A : Type 0} (P : A → Type 0) (xs : List A) (i : ℕ) (x : A) → Each P xs → slice_get xs i ≡ Some x → P x
each_at P [] i x each at = absurd (let bad : None ≡ Some x = at in cc)
each_at P (y ∷ ys) zero x each at = let same : y ≡ x = cc in subst P same each.0
each_at P (y ∷ ys) (suc i) x each at = each_at P ys i x each.1 at

pub each_behind : {A : Type 0} (P : A → Type 0) (xs : List A) (i : ℕ) → Each P xs → Each P (behind xs i)
each_behind P [] i each = tt
each_behind P (y ∷ ys) zero each = each.1
each_behind P (y ∷ ys) (suc i) each = each_behind P ys i each.1

pub each_push : {A : Type 0} (P : A → Type 0) (xs : List A) (x : A) → Each P xs → P x → Each P (xs ++ x ∷ [])
each_push P [] x each here = (here, tt)
each_push P (y ∷ ys) x each here = (each.0, each_push P ys x each.1 here)

pub each_map : {A : Type 0} (P Q : A → Type 0) (xs : List A) → ((x : A) → P x → Q x) → Each P xs → Each Q xs
each_map P Q [] f each = tt
each_map P Q (y ∷ ys) f each = (f y each.0, each_map P Q ys f each.1)

-- pages that rise one after another, from the first to the last
abbrev pub Chain : Page → List Page → Page → Type 0
Chain x [] z = Rises x z
Chain x (y ∷ ys) z = Rises x y × Chain y ys z

pub chain_up : (x : Page) (ys : List Page) (z more : Page) → Chain x ys z → Rises z more → Chain x ys more
chain_up x [] z more chain up = rises_trans x z more chain up
chain_up x (y ∷ ys) z more chain up = (chain.0, chain_up y ys z more chain.1 up)

pub chain_push : (x : Page) (ys : List Page) (z : Page) → Chain x ys z → Chain x (ys ++ z ∷ []) z
chain_push x [] z chain = (chain, rises_refl z)
chain_push x (y ∷ ys) z chain = (chain.0, chain_push y ys z chain.1)

pub chain_ends : (x : Page) (ys : List Page) (z : Page) → Chain x ys z → Rises x z
chain_ends x [] z chain = chain
chain_ends x (y ∷ ys) z chain = rises_trans x y z chain.0 (chain_ends y ys z chain.1)

pub chain_at : (x : Page) (ys : List Page) (z : Page) (i : ℕ) (y : Page) → Chain x ys z → slice_get ys i ≡ Some y → Rises x y × Chain y (behind ys i) z
chain_at x [] z i y chain at = absurd (let bad : None ≡ Some y = at in cc)
chain_at x (h ∷ ys) z zero y chain at = let same : h ≡ y = cc in let P : Page → Type 0 = λ p. Rises x p × Chain p ys z in subst P same chain
chain_at x (h ∷ ys) z (suc i) y chain at = let later = chain_at h ys z i y chain.1 at in (rises_trans x h y chain.0 later.0, later.1)

-- ---- tests of all sessions

pub all_at : (n : ℕ) (looked : ℕ → Bool) (i : ℕ) → all_below n looked ≡ true → i < n → looked i ≡ true
all_at zero looked i all low = absurd (omega arith)
all_at (suc n) looked i all low = by (all_at n looked i) (cases_eq i n) (and_parts (looked n) (all_below n looked) all)
  where
    by : (all_below n looked ≡ true → i < n → looked i ≡ true) → (i ≡ n) ⊎ (i ≢ n) → (looked n ≡ true) × (all_below n looked ≡ true) → looked i ≡ true
    by more (inl same) parts = ap looked same ∙ parts.0
    by more (inr ne) parts = more parts.1 (omega arith)

-- ---- the greatest of several lines

pub greatest_least : (n : ℕ) (line : ℕ → StoredCopy) (i : ℕ) → i < n → IsAtMost (line i).tag (greatest_of n line).tag
greatest_least zero line i low = absurd (omega arith)
greatest_least (suc n) line i low = by (greatest_least n line i) (cases_eq i n)
  where
    more : StoredCopy
    more = newer_of (greatest_of n line) (line n)

    by : (i < n → IsAtMost (line i).tag (greatest_of n line).tag) → (i ≡ n) ⊎ (i ≢ n) → IsAtMost (line i).tag (newer_of (greatest_of n line) (line n)).tag
    by before (inl same) = let P : ℕ → Type 0 = λ z. IsAtMost (line z).tag more.tag in subst P (sym same) (newer_of-right (greatest_of n line) (line n))
    by before (inr ne) = at_most_trans (line i).tag (greatest_of n line).tag more.tag (before (omega arith)) (newer_of-left (greatest_of n line) (line n))

pub record Chosen (n : ℕ) (line : ℕ → StoredCopy) (best : StoredCopy) : Type 0 where
  pub session : ℕ
  pub low : session < n
  pub is : best ≡ line session

pub greatest_is : (n : ℕ) (line : ℕ → StoredCopy) → (greatest_of n line ≡ first_copy) ⊎ Chosen n line (greatest_of n line)
greatest_is zero line = inl refl
greatest_is (suc n) line = by (is_less (greatest_of n line).tag (line n).tag) refl (greatest_is n line)
  where
    by : (b : Bool) → is_less (greatest_of n line).tag (line n).tag ≡ b → (greatest_of n line ≡ first_copy) ⊎ Chosen n line (greatest_of n line) → (newer_of (greatest_of n line) (line n) ≡ first_copy) ⊎ Chosen (suc n) line (newer_of (greatest_of n line) (line n))
    by true e before = inr (record { session = n; low = omega arith; is = rw e refl })
    by false e (inl first) = inl (rw e first)
    by false e (inr chosen) = inr (record { session = chosen.session; low = (let low = chosen.low in omega (arith, low)); is = rw e chosen.is })

-- ---- the greatest of several numbers

pub number_least : (n : ℕ) (number : ℕ → ℕ) (i : ℕ) → i < n → number i ≤ greatest_number n number
number_least zero number i low = absurd (omega arith)
number_least (suc n) number i low = by (number_least n number i) (cases_eq i n)
  where
    by : (i < n → number i ≤ greatest_number n number) → (i ≡ n) ⊎ (i ≢ n) → number i ≤ max (greatest_number n number) (number n)
    by before (inl same) = let e : number i ≡ number n = ap number same in omega (arith, e)
    by before (inr ne) = let b = before (omega (arith, low, ne)) in omega (arith, b)
