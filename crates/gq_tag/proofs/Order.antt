-- The order of tags, and the newer of two copies.
use Rattle.std.proofs.Common.{◌≡◌, ◌⊎◌, ◌<◌, ◌≤◌, true, false, refl, inl, inr, arith}
use Rattle.std.proofs.lemmas.Bool.{cases_Bool}
use Rattle.std.proofs.lemmas.Bool.Decides.{nat_tests}
use Rattle.gq_tag.specs.declared.Tag.{Tag}
use Rattle.gq_tag.specs.declared.StoredCopy.{StoredCopy}
use Rattle.gq_tag.specs.Tag.{is_less, newer_of}

-- a's tag is at most b's
abbrev pub IsAtMost : Tag → Tag → Type 0
IsAtMost a b = is_less b a ≡ false

pub less-parts : (a b : Tag) → is_less a b ≡ true → (a.number < b.number) ⊎ ((a.number ≡ b.number) × (a.session < b.session))
less-parts a b h = grind (arith, nat_tests)

pub at_most-parts : (a b : Tag) → IsAtMost b a → (b.number < a.number) ⊎ ((a.number ≡ b.number) × (b.session ≤ a.session))
at_most-parts a b h = grind (arith, nat_tests)

pub less_from : (a b : Tag) → (a.number < b.number) ⊎ ((a.number ≡ b.number) × (a.session < b.session)) → is_less a b ≡ true
less_from a b h = grind (arith, nat_tests)

pub at_most_from : (a b : Tag) → (b.number < a.number) ⊎ ((a.number ≡ b.number) × (b.session ≤ a.session)) → IsAtMost b a
at_most_from a b h = grind (arith, nat_tests)

pub at_most_refl : (a : Tag) → IsAtMost a a
at_most_refl a = at_most_from a a (inr (refl, omega arith))

pub at_most_trans : (a b c : Tag) → IsAtMost a b → IsAtMost b c → IsAtMost a c
at_most_trans a b c h k = at_most_from c a (go (at_most-parts b a h) (at_most-parts c b k))
  where
    go : (a.number < b.number) ⊎ ((b.number ≡ a.number) × (a.session ≤ b.session)) → (b.number < c.number) ⊎ ((c.number ≡ b.number) × (b.session ≤ c.session)) → (a.number < c.number) ⊎ ((c.number ≡ a.number) × (a.session ≤ c.session))
    go (inl x) (inl y) = inl (omega arith)
    go (inl x) (inr y) = inl (omega arith)
    go (inr x) (inl y) = inl (omega arith)
    go (inr x) (inr y) = inr (omega arith, omega arith)

pub less_at_most : (a b : Tag) → is_less a b ≡ true → IsAtMost a b
less_at_most a b h = go (less-parts a b h)
  where
    go : (a.number < b.number) ⊎ ((a.number ≡ b.number) × (a.session < b.session)) → IsAtMost a b
    go (inl x) = at_most_from b a (inl x)
    go (inr x) = at_most_from b a (inr (omega arith, omega arith))

pub at_most_less : (a b c : Tag) → IsAtMost a b → is_less b c ≡ true → is_less a c ≡ true
at_most_less a b c h k = less_from a c (go (at_most-parts b a h) (less-parts b c k))
  where
    go : (a.number < b.number) ⊎ ((b.number ≡ a.number) × (a.session ≤ b.session)) → (b.number < c.number) ⊎ ((b.number ≡ c.number) × (b.session < c.session)) → (a.number < c.number) ⊎ ((a.number ≡ c.number) × (a.session < c.session))
    go (inl x) (inl y) = inl (omega arith)
    go (inl x) (inr y) = inl (omega arith)
    go (inr x) (inl y) = inl (omega arith)
    go (inr x) (inr y) = inr (omega arith, omega arith)

-- ---- the newer of two copies

pub newer_of-left : (a b : StoredCopy) → IsAtMost a.tag (newer_of a b).tag
newer_of-left a b =
    elim (cases_Bool (is_less a.tag b.tag)) [
      | inl e ↦ rw e (less_at_most a.tag b.tag e)
      | inr e ↦ rw e (at_most_refl a.tag)
    ]

pub newer_of-right : (a b : StoredCopy) → IsAtMost b.tag (newer_of a b).tag
newer_of-right a b =
    elim (cases_Bool (is_less a.tag b.tag)) [
      | inl e ↦ rw e (at_most_refl b.tag)
      | inr e ↦ rw e e
    ]

-- a copy that is no newer changes nothing
pub newer_of-at_most : (a b : StoredCopy) → IsAtMost b.tag a.tag → newer_of a b ≡ a
newer_of-at_most a b h = rw h refl
