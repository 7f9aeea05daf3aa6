-- What was read so far, in front of what is read of the rest.
use Rattle.std.proofs.Common.{◌≡◌, List, [], ◌∷◌, ◌++◌, Option, Some, None, refl, ap, append_assoc}
use Rattle.gq_page.specs.Text.{onto}

abbrev pub in_front : {A : Type 0} → List A → Option (List A) → Option (List A)
in_front xs None = None
in_front xs (Some ys) = Some (xs ++ ys)

-- one value more was read
pub in_front-onto : {A : Type 0} (xs : List A) (x : A) (rest : Option (List A)) → in_front (xs ++ x ∷ []) rest ≡ in_front xs (onto x rest)
in_front-onto xs x None = refl
in_front-onto xs x (Some ys) = ap (λ zs. Some zs) (append_assoc xs (x ∷ []) ys)

pub in_front-none : {A : Type 0} (rest : Option (List A)) → in_front [] rest ≡ rest
in_front-none None = refl
in_front-none (Some ys) = refl
