-- The servers of a set are written one after another.
use Rattle.std.proofs.Common.{◌≡◌, ℕ, ◌+◌, ◌<◌, length, get_or, take, List, [], ◌∷◌, ◌++◌, append_assoc, append-nil, Result, Ok, Err, ap, ◌∙◌, sym, refl, add-one, add-zero, arith, zero, suc, true, false, map}
use Rattle.std.specs.Prelude.{OnErr, decimal, filter}
use Rattle.std.specs.List.{flat_map, range_with_len}
use Rattle.std.proofs.lemmas.List.{map-append, take_more}
use Rattle.std.proofs.lemmas.List.Concat.{flat_map-append}
use Rattle.std.proofs.lemmas.List.Elements.{filter-append}
use Rattle.gq_grid.specs.Grid.{Servers, below}
use Rattle.gq_lines.specs.Written.{spaced, Extends}

spaced-append : (xs ys : List (List ℕ)) → spaced (xs ++ ys) ≡ spaced xs ++ spaced ys
spaced-append xs ys = flat_map-append (λ word. 32 ∷ word) xs ys

range_more : (k from : ℕ) → range_with_len from (suc k) ≡ range_with_len from k ++ (from + k) ∷ []
range_more zero from = rw add-zero refl
range_more (suc k) from =
    let here : from + 1 + k ≡ from + suc k = omega arith in
    ap (λ xs. from ∷ xs) (range_more k (from + 1) ∙ ap (λ n. range_with_len (from + 1) k ++ n ∷ []) here)

below_more : (k : ℕ) → below (k + 1) ≡ below k ++ k ∷ []
below_more k =
    let here : 0 + k ≡ k = omega arith in
    rw add-one (range_more k 0 ∙ ap (λ n. below k ++ n ∷ []) here)

one_here : (k : ℕ) (set : Servers) → set k ≡ true → spaced (map decimal (filter set (k ∷ []))) ≡ 32 ∷ decimal k
one_here k set here = rw (here, append-nil) refl

none_here : (k : ℕ) (set : Servers) → set k ≡ false → spaced (map decimal (filter set (k ∷ []))) ≡ []
none_here k set here = rw here refl

more_text : (k : ℕ) (set : Servers) → spaced (map decimal (filter set (below (k + 1)))) ≡ spaced (map decimal (filter set (below k))) ++ spaced (map decimal (filter set (k ∷ [])))
more_text k set = rw (below_more k, filter-append set (below k) (k ∷ []), map-append decimal (filter set (below k)) (filter set (k ∷ [])), spaced-append (map decimal (filter set (below k))) (map decimal (filter set (k ∷ [])))) refl

-- a server of the set was written
pub server_written : (old mid new : List ℕ) (k : ℕ) (set : Servers) → mid ≡ old ++ spaced (map decimal (filter set (below k))) → new ≡ mid ++ 32 ∷ decimal k → set k ≡ true → new ≡ old ++ spaced (map decimal (filter set (below (k + 1))))
server_written old mid new k set before now here =
    now ∙ ap (λ x. x ++ 32 ∷ decimal k) before ∙ append_assoc old (spaced (map decimal (filter set (below k)))) (32 ∷ decimal k) ∙ ap (λ x. old ++ x) (sym (more_text k set ∙ ap (λ x. spaced (map decimal (filter set (below k))) ++ x) (one_here k set here)))

-- a server outside the set was passed
pub server_passed : (old new : List ℕ) (k : ℕ) (set : Servers) → new ≡ old ++ spaced (map decimal (filter set (below k))) → set k ≡ false → new ≡ old ++ spaced (map decimal (filter set (below (k + 1))))
server_passed old new k set before outside =
    before ∙ ap (λ x. old ++ x) (sym (more_text k set ∙ ap (λ x. spaced (map decimal (filter set (below k))) ++ x) (none_here k set outside) ∙ append-nil (spaced (map decimal (filter set (below k))))))
