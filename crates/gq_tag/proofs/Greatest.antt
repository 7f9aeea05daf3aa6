-- The greatest copy of a list that grows.
use Rattle.std.proofs.Common.{◌≡◌, Bool, true, false, ◌&&◌, List, [], ◌∷◌, ◌++◌, refl, sym, ap, ◌∙◌, inl, inr, Some, None, append_assoc, append-nil}
use Rattle.std.specs.Prelude.{fold, find, not}
use Rattle.std.specs.Option.{option_or}
use Rattle.std.proofs.lemmas.List.Folds.{find-append, list_all-append}
use Rattle.std.proofs.lemmas.Bool.{cases_Bool, and_parts, not-true}
use Rattle.gq_tag.specs.declared.StoredCopy.{StoredCopy}
use Rattle.gq_tag.specs.Tag.{is_less, is_unexceeded, latest, newer_of}
use Rattle.gq_tag.proofs.Order.{at_most_refl, at_most_less, less_at_most}

-- ---- a search with one more test

find_holds : (p : StoredCopy → Bool) (xs : List StoredCopy) (b : StoredCopy) → find p xs ≡ Some b → p b ≡ true
find_holds p [] b h = cc
find_holds p (x ∷ xs) b h =
    elim (cases_Bool (p x)) [
      | inl e ↦ let k : Some x ≡ Some b = rw e at h in let same : x ≡ b = cc in rw (← same) e
      | inr e ↦ find_holds p xs b (rw e at h)
    ]

find-and_found : (p q : StoredCopy → Bool) (xs : List StoredCopy) (b : StoredCopy) → find p xs ≡ Some b → q b ≡ true → find (λ x. p x && q x) xs ≡ Some b
find-and_found p q [] b h k = h
find-and_found p q (x ∷ xs) b h k =
    elim (cases_Bool (p x)) [
      | inl e ↦ let s : Some x ≡ Some b = rw e at h in let same : x ≡ b = cc in rw (e, same, k) refl
      | inr e ↦ rw e (find-and_found p q xs b (rw e at h) k)
    ]

-- no copy exceeds the greatest
pub latest-unexceeded : (copies : List StoredCopy) (b : StoredCopy) → latest copies ≡ Some b → is_unexceeded copies b ≡ true
latest-unexceeded copies b h = find_holds (is_unexceeded copies) copies b h

-- ---- one copy more

and-false : (a : Bool) → (a && false) ≡ false
and-false true = refl
and-false false = refl

-- where b is less than c, a tag that does not exceed b is less than c
less_below : (b c x : StoredCopy) → is_less b.tag c.tag ≡ true → not (is_less b.tag x.tag) ≡ true → is_less x.tag c.tag ≡ true
less_below b c x h k = at_most_less x.tag b.tag c.tag (not-true (is_less b.tag x.tag) k) h

less_than_all : (b c : StoredCopy) (xs : List StoredCopy) → is_less b.tag c.tag ≡ true → is_unexceeded xs b ≡ true → is_unexceeded xs c ≡ true
less_than_all b c [] h k = refl
less_than_all b c (x ∷ xs) h k =
    let parts = and_parts (not (is_less b.tag x.tag)) (is_unexceeded xs b) k in
    rw (less_at_most x.tag c.tag (less_below b c x h parts.0), less_than_all b c xs h parts.1) refl

none_left : (b c : StoredCopy) (p : StoredCopy → Bool) (xs : List StoredCopy) → is_less b.tag c.tag ≡ true → is_unexceeded xs b ≡ true → find (λ x. p x && is_unexceeded (c ∷ []) x) xs ≡ None
none_left b c p [] h k = refl
none_left b c p (x ∷ xs) h k =
    let parts = and_parts (not (is_less b.tag x.tag)) (is_unexceeded xs b) k in
    rw (less_below b c x h parts.0, and-false (p x)) (none_left b c p xs h parts.1)

pub latest-single : (c : StoredCopy) → latest (c ∷ []) ≡ Some c
latest-single c = rw (at_most_refl c.tag) refl

latest-parts : (xs : List StoredCopy) (c : StoredCopy) → latest (xs ++ c ∷ []) ≡ find (λ x. is_unexceeded xs x && is_unexceeded (c ∷ []) x) (xs ++ c ∷ [])
latest-parts xs c = ap (λ f. find f (xs ++ c ∷ [])) (λ i x. list_all-append (λ other. not (is_less x.tag other.tag)) xs (c ∷ []) i)

-- the greatest of a list and one more copy
pub latest-append : (xs : List StoredCopy) (c b : StoredCopy) → latest xs ≡ Some b → latest (xs ++ c ∷ []) ≡ Some (newer_of b c)
latest-append xs c b h = latest-parts xs c ∙ find-append both xs (c ∷ []) ∙ by
  where
    both : StoredCopy → Bool
    both x = is_unexceeded xs x && is_unexceeded (c ∷ []) x

    by : option_or (find both xs) (find both (c ∷ [])) ≡ Some (newer_of b c)
    by =
        elim (cases_Bool (is_less b.tag c.tag)) [
          | inl e ↦
              rw (e, none_left b c (is_unexceeded xs) xs e (find_holds (is_unexceeded xs) xs b h), less_than_all b c xs e (find_holds (is_unexceeded xs) xs b h), at_most_refl c.tag) refl
          | inr e ↦
              let q : is_unexceeded (c ∷ []) b ≡ true = rw e refl in
              rw (e, find-and_found (is_unexceeded xs) (is_unexceeded (c ∷ [])) xs b h q) refl
        ]

-- the greatest is found by going through the list
pub latest-fold : (xs ys : List StoredCopy) (b : StoredCopy) → latest xs ≡ Some b → latest (xs ++ ys) ≡ Some (fold newer_of b ys)
latest-fold xs [] b h = ap latest (append-nil xs) ∙ h
latest-fold xs (y ∷ ys) b h = ap latest (sym (append_assoc xs (y ∷ []) ys)) ∙ latest-fold (xs ++ y ∷ []) ys (newer_of b y) (latest-append xs y b h)

pub latest-cons : (c : StoredCopy) (cs : List StoredCopy) → latest (c ∷ cs) ≡ Some (fold newer_of c cs)
latest-cons c cs = latest-fold (c ∷ []) cs c (latest-single c)
