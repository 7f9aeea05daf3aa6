-- Texts that go on from others.
use Rattle.std.proofs.Common.{◌≡◌, ℕ, ◌+◌, ◌<◌, length, get_or, take, List, [], ◌∷◌, ◌++◌, append_assoc, append-nil, Result, Ok, Err, ap, ◌∙◌, sym}
use Rattle.std.specs.Prelude.{OnErr}
use Rattle.std.specs.List.{flat_map}
use Rattle.std.proofs.lemmas.List.{take_more}
use Rattle.std.proofs.lemmas.List.Concat.{flat_map-append}
use Rattle.gq_lines.specs.Written.{Extends}

pub extends_more : (old mid new more : List ℕ) → mid ≡ old ++ more → Extends mid new → Extends old new
extends_more old mid new more is h = (more ++ h.0, h.1 ∙ ap (λ x. x ++ h.0) is ∙ append_assoc old more h.0)

pub extends_on : (old mid new more : List ℕ) → Extends old mid → new ≡ mid ++ more → Extends old new
extends_on old mid new more h is = (h.0 ++ more, is ∙ ap (λ x. x ++ more) h.1 ∙ append_assoc old h.0 more)

pub on_err : {T E P : Type 0} (r : Result T E) → P → OnErr r P
on_err (Ok x) p = tt
on_err (Err e) p = p

-- the text of one item more is written
pub one_more : {A : Type 0} (f : A → List ℕ) (old mid new : List ℕ) (xs : List A) (i : ℕ) (x : A) → i < length xs → x ≡ get_or xs i x → mid ≡ old ++ flat_map f (take i xs) → new ≡ mid ++ f x → new ≡ old ++ flat_map f (take (i + 1) xs)
one_more f old mid new xs i x within is before now =
    let one : take (i + 1) xs ≡ take i xs ++ x ∷ [] = take_more xs i x within ∙ ap (λ y. take i xs ++ y ∷ []) (sym is) in
    let text : flat_map f (take (i + 1) xs) ≡ flat_map f (take i xs) ++ (f x ++ []) = ap (flat_map f) one ∙ flat_map-append f (take i xs) (x ∷ []) in
    now ∙ ap (λ t. t ++ f x) before ∙ append_assoc old (flat_map f (take i xs)) (f x)
    ∙ ap (λ t. old ++ t) (ap (λ t. flat_map f (take i xs) ++ t) (sym (append-nil (f x))) ∙ sym text)
