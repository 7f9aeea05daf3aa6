-- How many envelopes name a place, after envelopes are sent or lost, and slots that stay counted.
use Rattle.std.proofs.Common.{◌≡◌, ◌≢◌, ◌<◌, ◌+◌, ◌⊎◌, inl, inr, ℕ, zero, suc, List, [], ◌∷◌, ◌++◌, length, set, Bool, true, false, cond, Option, Some, None, refl, sym, ap, subst, arith, map, slice_get}
use Rattle.std.specs.Prelude.{replicate, nat_lt}
use Rattle.std.proofs.lemmas.Bool.{cases_eq}
use Rattle.std.proofs.lemmas.Bool.Decides.{nat_tests}
use Rattle.std.proofs.lemmas.List.Sums.{sum_by-append, sum_by-set}
use Rattle.gq_post.specs.declared.copies.SharedCopy.{SharedCopy}
use Rattle.gq_post.specs.declared.envelopes.Envelope.{Envelope}
use Rattle.gq_post.specs.Envelopes.{to_other, lost, envelopes_at}
use Rattle.gq_post.specs.Copies.{Slots, slot_at, names, uses, uses_in, IsUsed, Counted, one_less}
use Rattle.gq_post.proofs.Reading.{once, uses_first, uses_in_first}

-- ---- uses

-- envelopes of the tenant at place t are sent
pub uses_sent : (place : ℕ) (channels : List (List Envelope)) (t : ℕ) (more : List Envelope) → t < length channels → uses_in place (set channels t (envelopes_at channels t ++ more)) ≡ uses_in place channels + uses place more
uses_sent place channels t more within =
    let whole : uses_in place (set channels t (envelopes_at channels t ++ more)) + uses place (envelopes_at channels t) ≡ uses_in place channels + uses place (envelopes_at channels t ++ more) = sum_by-set (uses place) channels t (envelopes_at channels t ++ more) [] within in
    let parts : uses place (envelopes_at channels t ++ more) ≡ uses place (envelopes_at channels t) + uses place more = sum_by-append (λ l. once (names place l)) (envelopes_at channels t) more in
    omega (arith, whole, parts)

-- the same envelope to some servers
pub uses_round : (place : ℕ) (envelope : Envelope) (servers : List ℕ) → uses place (map (to_other envelope) servers) ≡ cond (names place envelope) (length servers) 0
uses_round place envelope [] = nothing (names place envelope)
  where
    nothing : (b : Bool) → ◌≡◌ {A = ℕ} 0 (cond b 0 0)
    nothing true = refl
    nothing false = refl
uses_round place envelope (server ∷ servers) = more (names place envelope) (uses_first place (to_other envelope server) (map (to_other envelope) servers)) (uses_round place envelope servers)
  where
    more : (b : Bool) → uses place (map (to_other envelope) (server ∷ servers)) ≡ once b + uses place (map (to_other envelope) servers) → uses place (map (to_other envelope) servers) ≡ cond b (length servers) 0 →
        uses place (map (to_other envelope) (server ∷ servers)) ≡ cond b (length (server ∷ servers)) 0
    more true first rest = omega (arith, first, rest)
    more false first rest = omega (arith, first, rest)

-- envelope n of a channel is lost
uses_lost_channel : (place : ℕ) (envelopes : List Envelope) (n : ℕ) (envelope : Envelope) → slice_get envelopes n ≡ Some envelope → uses place (set envelopes n (lost envelope)) + once (names place envelope) ≡ uses place envelopes
uses_lost_channel place [] n envelope is = absurd (cc)
uses_lost_channel place (x ∷ envelopes) zero envelope is =
    let same : x ≡ envelope = some_is is in
    let one : once (names place x) ≡ once (names place envelope) = ap (λ l. once (names place l)) same in
    let gone : uses place (lost envelope ∷ envelopes) ≡ 0 + uses place envelopes = uses_first place (lost envelope) envelopes in
    let had : uses place (x ∷ envelopes) ≡ once (names place x) + uses place envelopes = uses_first place x envelopes in
    omega (arith, one, gone, had)
  where
    some_is : Some x ≡ Some envelope → x ≡ envelope
    some_is e = cc
uses_lost_channel place (x ∷ envelopes) (suc n) envelope is =
    let rest : uses place (set envelopes n (lost envelope)) + once (names place envelope) ≡ uses place envelopes = uses_lost_channel place envelopes n envelope is in
    let now : uses place (x ∷ set envelopes n (lost envelope)) ≡ once (names place x) + uses place (set envelopes n (lost envelope)) = uses_first place x (set envelopes n (lost envelope)) in
    let had : uses place (x ∷ envelopes) ≡ once (names place x) + uses place envelopes = uses_first place x envelopes in
    omega (arith, rest, now, had)

pub uses_lost : (place : ℕ) (channels : List (List Envelope)) (t n : ℕ) (envelope : Envelope) → t < length channels → slice_get (envelopes_at channels t) n ≡ Some envelope →
    uses_in place (set channels t (set (envelopes_at channels t) n (lost envelope))) + once (names place envelope) ≡ uses_in place channels
uses_lost place channels t n envelope within is =
    let whole : uses_in place (set channels t (set (envelopes_at channels t) n (lost envelope))) + uses place (envelopes_at channels t) ≡ uses_in place channels + uses place (set (envelopes_at channels t) n (lost envelope)) =
    sum_by-set (uses place) channels t (set (envelopes_at channels t) n (lost envelope)) [] within in
    let channel : uses place (set (envelopes_at channels t) n (lost envelope)) + once (names place envelope) ≡ uses place (envelopes_at channels t) = uses_lost_channel place (envelopes_at channels t) n envelope is in
    omega (arith, whole, channel)

-- no envelope, no use
pub uses_empty : (place count : ℕ) → uses_in place (replicate count []) ≡ 0
uses_empty place zero = refl
uses_empty place (suc count) =
    let none : uses place [] ≡ 0 = refl in
    omega (arith, none, uses_in_first place [] (replicate count []), uses_empty place count)

-- ---- counted slots

-- slots that find the same, and channels that use as much
pub counted_same : (old new : Slots) (channels more : List (List Envelope)) → ((place : ℕ) → slot_at new place ≡ slot_at old place) → ((place : ℕ) → uses_in place more ≡ uses_in place channels) → Counted old channels → Counted new more
counted_same old new channels more slots uses counted = λ place.
    subst (λ slot. IsUsed slot (uses_in place more)) (sym (slots place)) (subst (IsUsed (slot_at old place)) (sym (uses place)) (counted place))

-- one slot changes, and its uses with it
pub counted_change : (old new : Slots) (channels more : List (List Envelope)) (key : ℕ) → ((place : ℕ) → place ≢ key → slot_at new place ≡ slot_at old place) → ((place : ℕ) → place ≢ key → uses_in place more ≡ uses_in place channels) →
    IsUsed (slot_at new key) (uses_in key more) → Counted old channels → Counted new more
counted_change old new channels more key slots uses here counted = λ place. (elim (cases_eq place key) [
  | inl same ↦ subst (λ k. IsUsed (slot_at new k) (uses_in k more)) (sym same) here
  | inr other ↦ subst (λ slot. IsUsed slot (uses_in place more)) (sym (slots place other)) (subst (IsUsed (slot_at old place)) (sym (uses place other)) (counted place))
])

-- a place with no copy has no use, and one with a use has a copy
pub vacant_unused : (slot : Option SharedCopy) (n : ℕ) → IsUsed slot n → slot ≡ None → n ≡ 0
vacant_unused None n used none = used
vacant_unused (Some shared) n used none = absurd (cc)

-- one user more, one less
pub used_more : (slot : Option SharedCopy) (shared : SharedCopy) (n : ℕ) → slot ≡ Some shared → IsUsed slot n → IsUsed (Some (record shared { users = shared.users + 1 })) (n + 1)
used_more slot shared n is used =
    let here : IsUsed (Some shared) n = subst (λ s. IsUsed s n) is used in
    let same : shared.users ≡ n = here.0 in
    ((omega (arith, same)), (omega arith))

pub used_less : (slot : Option SharedCopy) (n m : ℕ) → m + 1 ≡ n → IsUsed slot n → IsUsed (one_less slot) m
used_less None n m is used = absurd (let no : n ≡ 0 = used in omega (arith, is, no))
used_less (Some shared) n m is used = by_users (cases_one (nat_lt 1 shared.users))
  where
    cases_one : (b : Bool) → (b ≡ true) ⊎ (b ≡ false)
    cases_one true = inl refl
    cases_one false = inr refl

    by_users : (nat_lt 1 shared.users ≡ true) ⊎ (nat_lt 1 shared.users ≡ false) → IsUsed (one_less (Some shared)) m
    by_users (inl many) =
        let same : shared.users ≡ n = used.0 in
        let two : 1 < shared.users = grind (arith, nat_tests) in
        rw many ((omega (arith, same, is)), (omega (arith, same, is, two)))
    by_users (inr last) =
        let same : shared.users ≡ n = used.0 in
        let few : shared.users < 2 = grind (arith, nat_tests) in
        rw last (omega (arith, same, is, few))
