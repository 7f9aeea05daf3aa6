-- One place more of a list that is left.
use Rattle.std.proofs.Common.{◌≡◌, ◌++◌, append_assoc, ℕ, suc, arith, ◌+◌, ◌<◌, ◌≤◌, Bool, true, false, ◌&&◌, List, [], ◌∷◌, length, drop, get_or, refl, sym, ap, ◌∙◌, Option, Some, None, max}
use Rattle.std.specs.Prelude.{is_some, not, slice_get, replicate, if◌then◌else◌}
use Rattle.std.proofs.lemmas.List.{drop_more, get_or_default, replicate-append-replicate}
use Rattle.std.proofs.lemmas.Option.{slice_get_past, slice_get-get_or}
use Rattle.gq_laws.specs.declared.ops.Op.{Op}
use Rattle.gq_laws.specs.Checks.{has_place, is_once}
use Rattle.gq_order.specs.Walk.{passes, bytes_after, walk_step, walks, completed, completed_at, is_done, is_after, rises_after}

-- from place n on the list is this rest
abbrev pub IsRest : {X : Type 0} → List X → ℕ → List X → Type 0
IsRest all n rest = (i : ℕ) → slice_get all (n + i) ≡ slice_get rest i

pub rest_more : {X : Type 0} (all rest : List X) (n : ℕ) (x : X) → IsRest all n (x ∷ rest) → IsRest all (n + 1) rest
rest_more all rest n x is i = ap (slice_get all) (next n i) ∙ is (suc i)
  where
    next : (n i : ℕ) → n + 1 + i ≡ n + suc i
    next n i = omega arith

pub rest_first : {X : Type 0} (all rest : List X) (n : ℕ) (x : X) → IsRest all n (x ∷ rest) → slice_get all n ≡ Some x
rest_first all rest n x is = ap (slice_get all) (none n) ∙ is 0
  where
    none : (n : ℕ) → n ≡ n + 0
    none n = omega arith

-- the whole list is what is left at first
pub rest_whole : {X : Type 0} (all : List X) → IsRest all 0 all
rest_whole all i = ap (slice_get all) (plus i)
  where
    plus : (i : ℕ) → 0 + i ≡ i
    plus i = omega arith

pub drop_is : {X : Type 0} (xs : List X) (i : ℕ) (x : X) → i < length xs → x ≡ get_or xs i x → drop i xs ≡ x ∷ drop (i + 1) xs
drop_is xs i x low is = drop_more xs i x low ∙ ap (λ z. z ∷ drop (i + 1) xs) (sym is)

pub completed_more : (ops : List Op) (i : ℕ) (a : Op) → i < length ops → a ≡ get_or ops i a → completed (drop i ops) ≡ (if is_some a.end then 1 else 0) + completed (drop (i + 1) ops)
completed_more ops i a low is = ap completed (drop_is ops i a low is)

pub completed_at_more : (ops : List Op) (order : List ℕ) (i p : ℕ) → i < length order → p ≡ get_or order i p → completed_at ops (drop i order) ≡ (if is_done ops p then 1 else 0) + completed_at ops (drop (i + 1) order)
completed_at_more ops order i p low is = ap (completed_at ops) (drop_is order i p low is)

pub is_once_more : (order : List ℕ) (i p : ℕ) → i < length order → p ≡ get_or order i p → is_once (drop i order) ≡ (not (has_place (drop (i + 1) order) p) && is_once (drop (i + 1) order))
is_once_more order i p low is = ap is_once (drop_is order i p low is)

walks_more : (ops : List Op) (order : List ℕ) (i p begun : ℕ) (bytes : List ℕ) → i < length order → p ≡ get_or order i p → walks ops (drop i order) begun bytes ≡ walk_step (slice_get ops p) (walks ops (drop (i + 1) order)) begun bytes
walks_more ops order i p begun bytes low is = ap (λ z. walks ops z begun bytes) (drop_is order i p low is)

-- there is no operation at the place
pub walks_ends : (ops : List Op) (order : List ℕ) (i begun : ℕ) (bytes : List ℕ) → i < length order → length ops ≤ get_or order i 0 → walks ops (drop i order) begun bytes ≡ false
walks_ends ops order i begun bytes low past =
    walks_more ops order i (get_or order i 0) begun bytes low (get_or_default order i 0 (get_or order i 0) low)
    ∙ ap (λ o. walk_step o (walks ops (drop (i + 1) order)) begun bytes) (slice_get_past ops (get_or order i 0) past)

-- there is one, and it passes or not
walks_at : (ops : List Op) (order : List ℕ) (i begun high : ℕ) (bytes : List ℕ) (a : Op) (pass : Bool) → i < length order → get_or order i 0 < length ops → a ≡ get_or ops (get_or order i 0) a → high ≡ max begun a.begin → pass ≡ passes a high bytes → walks ops (drop i order) begun bytes ≡ (pass && walks ops (drop (i + 1) order) high (bytes_after a bytes))
walks_at ops order i begun high bytes a pass low inside is begins fit_is =
    walks_more ops order i (get_or order i 0) begun bytes low (get_or_default order i 0 (get_or order i 0) low)
    ∙ ap (λ o. walk_step o later begun bytes) (slice_get-get_or ops (get_or order i 0) a inside ∙ ap Some (sym is))
    ∙ ap (λ h. passes a h bytes && later h (bytes_after a bytes)) (sym begins)
    ∙ ap (λ b. b && later high (bytes_after a bytes)) (sym fit_is)
  where
    later : ℕ → List ℕ → Bool
    later = walks ops (drop (i + 1) order)

pub walks_stops : (ops : List Op) (order : List ℕ) (i begun high : ℕ) (bytes : List ℕ) (a : Op) → i < length order → get_or order i 0 < length ops → a ≡ get_or ops (get_or order i 0) a → high ≡ max begun a.begin → false ≡ passes a high bytes → walks ops (drop i order) begun bytes ≡ false
walks_stops ops order i begun high bytes a = walks_at ops order i begun high bytes a false

pub walks_goes : (ops : List Op) (order : List ℕ) (i begun high : ℕ) (bytes after : List ℕ) (a : Op) → i < length order → get_or order i 0 < length ops → a ≡ get_or ops (get_or order i 0) a → high ≡ max begun a.begin → true ≡ passes a high bytes → after ≡ bytes_after a bytes → walks ops (drop i order) begun bytes ≡ walks ops (drop (i + 1) order) high after
walks_goes ops order i begun high bytes after a low inside is begins pass same =
    walks_at ops order i begun high bytes a true low inside is begins pass ∙ ap (walks ops (drop (i + 1) order) high) (sym same)

-- one place more of an order that rises
after_more : (ops : List Op) (last : Option ℕ) (p : ℕ) (places : List ℕ) → rises_after ops last (p ∷ places) ≡ (is_after ops last p && rises_after ops (Some p) places)
after_more ops None p places = refl
after_more ops (Some i) p places = refl

pub rises_more : (ops : List Op) (last : Option ℕ) (order : List ℕ) (i p : ℕ) → i < length order → p ≡ get_or order i p → rises_after ops last (drop i order) ≡ (is_after ops last p && rises_after ops (Some p) (drop (i + 1) order))
rises_more ops last order i p low is = ap (rises_after ops last) (drop_is order i p low is) ∙ after_more ops last p (drop (i + 1) order)

pub rises_none : (ops : List Op) (last : Option ℕ) → rises_after ops last [] ≡ true
rises_none ops None = refl
rises_none ops (Some i) = refl

-- one message more of those that are a session's
pub given_more : (xs : List ℕ) (n s : ℕ) → (xs ++ replicate n s) ++ s ∷ [] ≡ xs ++ replicate (n + 1) s
given_more xs n s = append_assoc xs (replicate n s) (s ∷ []) ∙ ap (λ z. xs ++ z) (replicate-append-replicate n 1 s)
