-- The operations of a list and the moments at which they begin.
use Rattle.std.proofs.Common.{◌≡◌, ◌⊎◌, ℕ, zero, suc, ◌+◌, ◌<◌, Bool, true, false, ◌++◌, List, [], ◌∷◌, length, refl, sym, ap, ◌∙◌, inl, inr, Some, None, arith, eqb}
use Rattle.std.specs.Prelude.{slice_get}
use Rattle.gq_grid.specs.Grid.{Grid}
use Rattle.gq_tag.specs.Tag.{File, is_file}
use Rattle.gq_desk.specs.declared.plans.TenantRow.{TenantRow}
use Rattle.gq_model.specs.Trace.{Turn, Own, Past}
use Rattle.gq_model.specs.declared.events.Line.TheVariants.{Write, Read, List as ListFiles}
use Rattle.gq_model.specs.Told.{Told, Began}
use Rattle.gq_model.specs.Lone.{after}
use Rattle.gq_laws.specs.declared.ops.Op.{Op}
use Rattle.gq_laws.specs.Operations.{SessionAnswer, begun_at, begun_in}
use Rattle.gq_laws.proofs.Reaching.{Reach, Here, Later, reach_up}
use Rattle.gq_laws.proofs.Telling.{first_told, tells, tells-cons}
use Rattle.gq_laws.proofs.OperationMoments.{Begun, begun_is}

split_at : (u v : List Op) (i : ℕ) (a : Op) → slice_get (u ++ v) i ≡ Some a → (slice_get u i ≡ Some a) ⊎ ((j : ℕ) × (i ≡ length u + j) × (slice_get v j ≡ Some a))
split_at [] v i a h = inr (i, omega arith, h)
split_at (x ∷ u) v zero a h = inl h
split_at (x ∷ u) v (suc i) a h = go (split_at u v i a h)
  where
    go : (slice_get u i ≡ Some a) ⊎ ((j : ℕ) × (i ≡ length u + j) × (slice_get v j ≡ Some a)) → (slice_get (x ∷ u) (suc i) ≡ Some a) ⊎ ((j : ℕ) × (suc i ≡ length (x ∷ u) + j) × (slice_get v j ≡ Some a))
    go (inl first) = inl first
    go (inr later) = inr (later.0, omega (arith, later.1), later.2)

pub at_later : (u v : List Op) (j : ℕ) (a : Op) → slice_get v j ≡ Some a → (i : ℕ) × (slice_get (u ++ v) i ≡ Some a)
at_later [] v j a h = (j, h)
at_later (x ∷ u) v j a h = let later = at_later u v j a h in (suc later.0, later.1)

pub at_first : (u v : List Op) (j : ℕ) (a : Op) → slice_get u j ≡ Some a → slice_get (u ++ v) j ≡ Some a
at_first [] v j a h = absurd (let bad : None ≡ Some a = h in cc)
at_first (x ∷ u) v zero a h = h
at_first (x ∷ u) v (suc j) a h = at_first u v j a h

-- the moment at which an operation of the list begins
pub record OpAt (grid : Grid) (row : TenantRow) (file : File) (p : Past) (n : ℕ) (es : List Turn) (a : Op) : Type 0 where
  pub q : Past
  pub m : ℕ
  pub x : Turn
  pub rest : List Turn
  pub reach : Reach grid row p n es q m (x ∷ rest)
  pub begun : Begun grid row file q m x (tells grid row (after grid row q x) (m + 1) rest) a

pub op_at : (grid : Grid) (row : TenantRow) (file : File) (es : List Turn) (p : Past) (n i : ℕ) (a : Op) → slice_get (begun_in file (tells grid row p n es)) i ≡ Some a → OpAt grid row file p n es a
op_at grid row file [] p n i a h = absurd (let bad : None ≡ Some a = h in cc)
op_at grid row file (x ∷ es) p n i a h =
    go (λ j e. op_at grid row file es (after grid row p x) (n + 1) j a e)
    (split_at (begun_at file (first_told grid row p n x) ts) (begun_in file ts) i a (sym (ap (λ z. slice_get (begun_in file z) i) (tells-cons grid row p n x es)) ∙ h))
  where
    ts : List SessionAnswer
    ts = tells grid row (after grid row p x) (n + 1) es

    go : ((j : ℕ) → slice_get (begun_in file ts) j ≡ Some a → OpAt grid row file (after grid row p x) (n + 1) es a) →
        (slice_get (begun_at file (first_told grid row p n x) ts) i ≡ Some a) ⊎ ((j : ℕ) × (i ≡ length (begun_at file (first_told grid row p n x) ts) + j) × (slice_get (begun_in file ts) j ≡ Some a)) → OpAt grid row file p n (x ∷ es) a
    go ih (inl first) = record { q = p; m = n; x = x; rest = es; reach = Here; begun = begun_is grid row file p n x ts a i first }
    go ih (inr later) = let o = ih later.0 later.2 in record { q = o.q; m = o.m; x = o.x; rest = o.rest; reach = Later o.reach; begun = o.begun }

-- a turn begins one operation at most
first_only : (x a : Op) (i : ℕ) → slice_get (x ∷ []) i ≡ Some a → i ≡ 0
first_only x a zero h = refl
first_only x a (suc i) h = absurd (let bad : None ≡ Some a = h in cc)

begun_single : (file : File) (y : SessionAnswer) (rest : List SessionAnswer) (a : Op) (i : ℕ) → slice_get (begun_at file y rest) i ≡ Some a → i ≡ 0
begun_single file y rest a i = go y.place y.turn y.told y.session
  where
    go : (n : ℕ) (x : Turn) (w : Told) (s : ℕ) → slice_get (begun_at file (record { place = n; turn = x; told = w; session = s }) rest) i ≡ Some a → i ≡ 0
    go n (Own (Write k v f bytes)) (Began o first count) s h = by (is_file (record { volume = v; place = f }) file) refl
      where
        by : (b : Bool) → is_file (record { volume = v; place = f }) file ≡ b → i ≡ 0
        by true e = first_only _ a i (rw e at h)
        by false e = absurd (let bad : None ≡ Some a = rw e at h in cc)
    go n (Own (Read k v f)) (Began o first count) s h = by (is_file (record { volume = v; place = f }) file) refl
      where
        by : (b : Bool) → is_file (record { volume = v; place = f }) file ≡ b → i ≡ 0
        by true e = first_only _ a i (rw e at h)
        by false e = absurd (let bad : None ≡ Some a = rw e at h in cc)
    go n (Own (ListFiles k v)) (Began o first count) s h = by (eqb v file.volume) refl
      where
        by : (b : Bool) → eqb v file.volume ≡ b → i ≡ 0
        by true e = first_only _ a i (rw e at h)
        by false e = absurd (let bad : None ≡ Some a = rw e at h in cc)
    go n x w s h = absurd (let bad : None ≡ Some a = h in cc)

-- operations that begin at one place are one
pub begins_differ : (grid : Grid) (row : TenantRow) (file : File) (es : List Turn) (p : Past) (n i j : ℕ) (a b : Op) →
    slice_get (begun_in file (tells grid row p n es)) i ≡ Some a → slice_get (begun_in file (tells grid row p n es)) j ≡ Some b → a.begin ≡ b.begin → i ≡ j
begins_differ grid row file [] p n i j a b h k same = absurd (let bad : None ≡ Some a = h in cc)
begins_differ grid row file (x ∷ es) p n i j a b h k same =
    go (λ i' j' e f. begins_differ grid row file es (after grid row p x) (n + 1) i' j' a b e f same)
    (split_at u (begun_in file ts) i a (sym (ap (λ z. slice_get (begun_in file z) i) (tells-cons grid row p n x es)) ∙ h))
    (split_at u (begun_in file ts) j b (sym (ap (λ z. slice_get (begun_in file z) j) (tells-cons grid row p n x es)) ∙ k))
  where
    ts : List SessionAnswer
    ts = tells grid row (after grid row p x) (n + 1) es

    u : List Op
    u = begun_at file (first_told grid row p n x) ts

    now : (i' : ℕ) (c : Op) → slice_get u i' ≡ Some c → c.begin ≡ n
    now i' c e = (begun_is grid row file p n x ts c i' e).begin

    after_now : (i' : ℕ) (c : Op) → slice_get (begun_in file ts) i' ≡ Some c → n < c.begin
    after_now i' c e = let o = op_at grid row file es (after grid row p x) (n + 1) i' c e in omega (arith, reach_up o.reach, o.begun.begin)

    go : ((i' j' : ℕ) → slice_get (begun_in file ts) i' ≡ Some a → slice_get (begun_in file ts) j' ≡ Some b → i' ≡ j') →
        (slice_get u i ≡ Some a) ⊎ ((i' : ℕ) × (i ≡ length u + i') × (slice_get (begun_in file ts) i' ≡ Some a)) →
        (slice_get u j ≡ Some b) ⊎ ((j' : ℕ) × (j ≡ length u + j') × (slice_get (begun_in file ts) j' ≡ Some b)) → i ≡ j
    go ih (inl f) (inl g) = begun_single file (first_told grid row p n x) ts a i f ∙ sym (begun_single file (first_told grid row p n x) ts b j g)
    go ih (inl f) (inr g) = absurd (omega (arith, now i a f, after_now g.0 b g.2))
    go ih (inr f) (inl g) = absurd (omega (arith, now j b g, after_now f.0 a f.2))
    go ih (inr f) (inr g) = let e = ih f.0 g.0 f.2 g.2 in omega (arith, f.1, g.1)
