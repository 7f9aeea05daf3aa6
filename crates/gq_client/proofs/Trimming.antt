-- Numbers without a zero at their end.
use Rattle.std.proofs.Common.{◌≡◌, ◌∙◌, ℕ, zero, suc, ◌-◌, List, [], ◌∷◌, ◌++◌, length, get_or, Option, Some, None, refl, ap, sym, subst, arith, append-nil, length-append}
use Rattle.std.specs.Option.{option_to_list}
use Rattle.std.specs.List.{slice_get}

zero_end : (xs : List ℕ) (t : ℕ) → get_or xs t 0 ≡ get_or (xs ++ 0 ∷ []) t 0
zero_end [] zero = refl
zero_end [] (suc t) = refl
zero_end (x ∷ xs) zero = refl
zero_end (x ∷ xs) (suc t) = zero_end xs t

last_at : (xs : List ℕ) (y : ℕ) → slice_get (xs ++ y ∷ []) (length xs) ≡ Some y
last_at [] y = refl
last_at (x ∷ xs) y = last_at xs y

last_is : (xs : List ℕ) (y : ℕ) → slice_get (xs ++ y ∷ []) (length (xs ++ y ∷ []) - 1) ≡ Some y
last_is xs y =
    let at : length (xs ++ y ∷ []) - 1 ≡ length xs = omega (arith, length-append xs (y ∷ [])) in
    ap (slice_get (xs ++ y ∷ [])) at ∙ last_at xs y

pub shorter : (old new : List ℕ) (x : Option ℕ) → old ≡ new ++ option_to_list x → slice_get old (length old - 1) ≡ Some 0 → (t : ℕ) → get_or new t 0 ≡ get_or old t 0
shorter old new None is last t = ap (λ xs. get_or xs t 0) (sym (is ∙ append-nil new))
shorter old new (Some y) is last t =
    let both : slice_get (new ++ y ∷ []) (length (new ++ y ∷ []) - 1) ≡ Some 0 = subst (λ xs. slice_get xs (length xs - 1) ≡ Some 0) is last in
    let none : y ≡ 0 = cc (last_is new y) in
    zero_end new t ∙ ap (λ z. get_or (new ++ z ∷ []) t 0) (sym none) ∙ ap (λ xs. get_or xs t 0) (sym is)
