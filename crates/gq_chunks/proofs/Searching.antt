-- The last number of a listing.
use Rattle.std.proofs.Common.{◌≡◌, ◌<◌, ◌+◌, ℕ, zero, suc, List, [], ◌∷◌, length, take, refl, ap, ◌∙◌, add-one, arith}
use Rattle.std.specs.Prelude.{slice_index_or}
use Rattle.gq_depot.specs.Answers.{last_of}
use Rattle.gq_depot.specs.declared.answer.ListedChunk.{ListedChunk}

last_at : (after : ℕ) (xs : List ListedChunk) (i : ℕ) (d : ListedChunk) → i < length xs → last_of after (take (suc i) xs) ≡ (slice_index_or xs i d).number
last_at after [] i d lt = absurd (omega (arith, lt))
last_at after (x ∷ xs) zero d lt = refl
last_at after (x ∷ xs) (suc i) d lt = last_at x.number xs i d (omega (arith, lt))

-- of one more
pub last_more : (after : ℕ) (xs : List ListedChunk) (i : ℕ) (d : ListedChunk) → i < length xs → last_of after (take (i + 1) xs) ≡ (slice_index_or xs i d).number
last_more after xs i d lt = ap (λ (n : ℕ). last_of after (take n xs)) (add-one i) ∙ last_at after xs i d lt
