-- The fact of a line's words, and whose it is.
use Rattle.std.proofs.Common.{◌≡◌, ℕ, List, ◌∷◌, Some, refl}
use Rattle.std.specs.Prelude.{option_map}
use Rattle.gq_desk.specs.CheckedPlan.{CheckedPlan}
use Rattle.gq_lines.specs.Words.{Word}
use Rattle.gq_text.specs.Input.{place_named}
use Rattle.gq_chunks.specs.Facts.{own_fact_by, chunk_fact_of_words}
use Rattle.gq_depot.specs.declared.fact.ChunkFact.{ChunkFact}

-- a verb, a tenant, and its fact
pub fact_arrives : (plan : CheckedPlan) (words rest : List Word) (verb name : Word) (t : ℕ) → words ≡ verb ∷ name ∷ rest → place_named plan name ≡ Some t → option_map (λ (fact : ChunkFact). (t, fact)) (own_fact_by verb rest) ≡ chunk_fact_of_words plan words
unfolding chunk_fact_of_words
fact_arrives plan words rest verb name t is place = rw (is, place) refl
