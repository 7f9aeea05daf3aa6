-- Chunks that are left, one of them less.
use Rattle.std.proofs.Common.{◌≡◌, ◌≢◌, ◌<◌, ◌≤◌, ◌+◌, ℕ, suc, Bool, List, [], ◌∷◌, ◌++◌, length, take, drop, get_or, sym, ap, subst, ◌∙◌, append_assoc, append-nil}
use Rattle.std.specs.Prelude.{remove, if◌then◌else◌}
use Rattle.std.proofs.lemmas.Bool.{eq-eqb, ne_eqb}
use Rattle.std.proofs.lemmas.List.{take-append-drop, take_all}
use Rattle.std.proofs.lemmas.Grind.{take_at_read}
use Rattle.std.proofs.Math.Seq.{drop-cons}
use Rattle.gq_depot.specs.Seeking.{without}
use Rattle.gq_depot.specs.declared.answer.ListedChunk.{ListedChunk}

-- none of these has the number: what comes behind is what matters
abbrev pub HasNone : ℕ → List ListedChunk → Type 0
HasNone n chunks = (rest : List ListedChunk) → without n (chunks ++ rest) ≡ chunks ++ without n rest

pub none_more : (n : ℕ) (chunks : List ListedChunk) (i : ℕ) (d : ListedChunk) → i < length chunks → (get_or chunks i d).number ≢ n → HasNone n (take i chunks) → HasNone n (take (i + 1) chunks)
none_more n chunks i d lt other none rest =
    let chunk : ListedChunk = get_or chunks i d in
    let joined : (take i chunks ++ chunk ∷ []) ++ rest ≡ take i chunks ++ chunk ∷ rest = append_assoc (take i chunks) (chunk ∷ []) rest in
    subst (λ (xs : List ListedChunk). without n (xs ++ rest) ≡ xs ++ without n rest) (sym (take_at_read chunks i d lt).1)
    (ap (without n) joined ∙ (none (chunk ∷ rest) ∙ (ap (λ (t : Bool). take i chunks ++ (if t then rest else chunk ∷ without n rest)) (ne_eqb chunk.number n other) ∙ sym (append_assoc (take i chunks) (chunk ∷ []) (without n rest)))))

-- the first one of the number is removed
pub removed_at : (n : ℕ) (chunks : List ListedChunk) (i : ℕ) (d : ListedChunk) → i < length chunks → (get_or chunks i d).number ≡ n → HasNone n (take i chunks) → without n chunks ≡ remove chunks i
removed_at n chunks i d lt same none =
    let chunk : ListedChunk = get_or chunks i d in
    let whole : chunks ≡ take i chunks ++ chunk ∷ drop (suc i) chunks = sym (take-append-drop i chunks) ∙ ap (λ (xs : List ListedChunk). take i chunks ++ xs) (drop-cons chunks i d lt) in
    ap (without n) whole ∙ (none (chunk ∷ drop (suc i) chunks) ∙ ap (λ (t : Bool). take i chunks ++ (if t then drop (suc i) chunks else chunk ∷ without n (drop (suc i) chunks))) (eq-eqb chunk.number n same))

pub none_removed : (n : ℕ) (chunks : List ListedChunk) (i : ℕ) → length chunks ≤ i → HasNone n (take i chunks) → without n chunks ≡ chunks
none_removed n chunks i all none =
    let whole : take i chunks ≡ chunks = take_all i chunks all in
    ap (without n) (sym (append-nil chunks) ∙ ap (λ (xs : List ListedChunk). xs ++ []) (sym whole)) ∙ (none [] ∙ (append-nil (take i chunks) ∙ whole))
