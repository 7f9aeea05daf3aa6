-- A list that is copied onto another with its last first, and from there onto a third.
use Rattle.std.proofs.Common.{◌≡◌, ℕ, ◌+◌, ◌<◌, ◌≤◌, suc, List, [], ◌∷◌, length, map, drop, get_or, refl, sym, ap, ◌∙◌, add-one, arith}
use Rattle.std.proofs.Math.Seq.{drop-cons}
use Rattle.std.proofs.lemmas.List.{length-drop}
use denote.RawPtr.{Ptr, null_ptr}
use Rattle.gq_pool.specs.Linked.{bytes_at, first_bytes}

-- the items of a list with the last first, in order before those of the other
abbrev pub turned_onto : List (List ℕ) → List (List ℕ) → List (List ℕ)
turned_onto [] ys = ys
turned_onto (x ∷ xs) ys = turned_onto xs (x ∷ ys)

-- the bytes of the nodes
abbrev pub bytes_of : List (Ptr × List ℕ) → List (List ℕ)
bytes_of ns = map (λ n. n.1) ns

pub copy_step : (ns : List (Ptr × List ℕ)) (turned : List (List ℕ)) (b : List ℕ) (i : ℕ) (whole : List (List ℕ)) → i < length ns → b ≡ bytes_at i ns
    → turned_onto turned (bytes_of (drop i ns)) ≡ whole → turned_onto (b ∷ turned) (bytes_of (drop (i + 1) ns)) ≡ whole
copy_step ns turned b i whole h same k =
    let n : Ptr × List ℕ = get_or ns i (null_ptr, []) in
    let cut : drop i ns ≡ n ∷ drop (suc i) ns = drop-cons ns i (null_ptr, []) h in
    let all : b ≡ n.1 = same ∙ ap first_bytes cut in
    (λ j. turned_onto turned (all j ∷ bytes_of (drop (add-one i j) ns))) ∙ (ap (λ x. turned_onto turned (bytes_of x)) (sym cut) ∙ k)

none_left : (xs : List (Ptr × List ℕ)) → length xs ≡ 0 → bytes_of xs ≡ []
none_left [] e = refl
none_left (x ∷ xs) e = absurd (omega arith)

pub copy_end : (ns : List (Ptr × List ℕ)) (turned : List (List ℕ)) (i : ℕ) (whole : List (List ℕ)) → length ns ≤ i
    → turned_onto turned (bytes_of (drop i ns)) ≡ whole → turned_onto turned [] ≡ whole
copy_end ns turned i whole past k =
    ap (turned_onto turned) (sym (none_left (drop i ns) (omega (arith, length-drop i ns)))) ∙ k

pub turn_end : (turned ys whole : List (List ℕ)) → length turned ≡ 0 → turned_onto turned ys ≡ whole → ys ≡ whole
turn_end [] ys whole e k = k
turn_end (x ∷ xs) ys whole e k = absurd (omega arith)
