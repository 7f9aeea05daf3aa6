-- The line of a fact is read as that fact, and may stand in a batch.
use Rattle.std.proofs.Common.{◌≡◌, ℕ, ◌<◌, ◌^◌, List, ◌∷◌, ◌++◌, Bool, Some, true, false, length, refl, ap, ◌∙◌, arith}
use Rattle.gq_shelf.specs.declared.place.Place.{Place}
use Rattle.gq_shelf.specs.declared.place.Place.TheVariants.{Fresh, Shelved}
use Rattle.gq_desk.specs.CheckedPlan.{CheckedPlan, row_at}
use Rattle.gq_lines.specs.Written.{spaced}
use Rattle.gq_text.specs.Canonical.{IsPlan}
use Rattle.gq_lines.proofs.Contents.{bytes_back}
use Rattle.gq_lines.proofs.Numbers.{numbers_read_back, long_numbers_read_back}
use Rattle.gq_lines.proofs.Plain.{is_plain, are_plain, decimal_plain, long_plain, bytes_plain, line_inner}
use Rattle.gq_lines.proofs.LinesBack.{words_back}
use Rattle.gq_wire.proofs.ValuesBack.{name_is_plain, place_back}
use Rattle.gq_journal.specs.Batches.{is_one_line, is_sealing}
use Rattle.gq_chunks.specs.Facts.{sure_digit, sure_of, place_verb, place_words, verb_of, own_words, chunk_fact_line, chunk_fact_of_words, own_fact_by}
use Rattle.gq_chunks.specs.Laws.{FitsPlace, FitsFact, FactsReadBack, FactsStandInBatches}
use Rattle.gq_depot.specs.declared.fact.ChunkFact.{ChunkFact}
use Rattle.gq_depot.specs.declared.fact.ChunkFact.TheVariants.{Put, Forgot, Filled}

-- ---- words without a space

place_verb_plain : (place : Place) → is_plain (place_verb place) ≡ true
place_verb_plain (Fresh bytes) = refl
place_verb_plain (Shelved extent) = refl

verb_plain : (fact : ChunkFact) → is_plain (verb_of fact) ≡ true
verb_plain (Put s n sure place) = place_verb_plain place
verb_plain (Forgot s floor run) = refl
verb_plain Filled = refl

place_plain : (place : Place) → FitsPlace place → are_plain (place_words place) ≡ true
place_plain (Fresh bytes) fits = rw (bytes_plain bytes) refl
place_plain (Shelved extent) fits = rw (decimal_plain extent.segment fits.0, long_plain extent.at fits.1, decimal_plain extent.len fits.2, long_plain extent.sum fits.3) refl

sure_small : (sure : Bool) → sure_digit sure < 2 ^ 32
sure_small true = omega arith
sure_small false = omega arith

own_plain : (fact : ChunkFact) → FitsFact fact → are_plain (own_words fact) ≡ true
own_plain (Put s n sure place) fits = rw (decimal_plain s fits.0, long_plain n fits.1, decimal_plain (sure_digit sure) (sure_small sure)) (place_plain place fits.2)
own_plain (Forgot s floor run) fits = rw (decimal_plain s fits.0, long_plain floor fits.1, long_plain run.first fits.2, long_plain run.last fits.3) refl
own_plain Filled fits = refl

words_plain : (plan : CheckedPlan) (t : ℕ) (fact : ChunkFact) → IsPlan plan → t < length plan.rows → FitsFact fact → are_plain ((row_at plan t).name ∷ own_words fact) ≡ true
words_plain plan t fact is within fits = rw (name_is_plain plan t is within) (own_plain fact fits)

-- ---- read back

sure_back : (sure : Bool) → sure_of (sure_digit sure) ≡ Some sure
sure_back true = refl
sure_back false = refl

own_back : (fact : ChunkFact) → FitsFact fact → own_fact_by (verb_of fact) (own_words fact) ≡ Some fact
own_back (Put s n sure (Fresh bytes)) fits = rw (numbers_read_back s fits.0, long_numbers_read_back n fits.1, numbers_read_back (sure_digit sure) (sure_small sure), sure_back sure, bytes_back bytes) refl
own_back (Put s n sure (Shelved extent)) fits =
    rw (numbers_read_back s fits.0, long_numbers_read_back n fits.1, numbers_read_back (sure_digit sure) (sure_small sure), sure_back sure, numbers_read_back extent.segment fits.2.0, long_numbers_read_back extent.at fits.2.1, numbers_read_back extent.len fits.2.2, long_numbers_read_back extent.sum fits.2.3) refl
own_back (Forgot s floor run) fits = rw (numbers_read_back s fits.0, long_numbers_read_back floor fits.1, long_numbers_read_back run.first fits.2, long_numbers_read_back run.last fits.3) refl
own_back Filled fits = refl

words_are : (plan : CheckedPlan) (t : ℕ) (fact : ChunkFact) → IsPlan plan → t < length plan.rows → FitsFact fact → chunk_fact_of_words plan (verb_of fact ∷ (row_at plan t).name ∷ own_words fact) ≡ Some (t, fact)
unfolding chunk_fact_of_words
words_are plan t fact is within fits = rw (place_back plan t is within, own_back fact fits) refl

pub facts_read_back : FactsReadBack
facts_read_back plan t fact is within fits =
    ap (chunk_fact_of_words plan) (words_back (verb_of fact) ((row_at plan t).name ∷ own_words fact) (verb_plain fact) (words_plain plan t fact is within fits))
    ∙ words_are plan t fact is within fits

-- ---- in a batch

place_never_seals : (place : Place) (rest : List ℕ) → is_sealing (place_verb place ++ rest) ≡ false
place_never_seals (Fresh bytes) rest = refl
place_never_seals (Shelved extent) rest = refl

never_seals : (fact : ChunkFact) (rest : List ℕ) → is_sealing (verb_of fact ++ rest) ≡ false
never_seals (Put s n sure place) rest = place_never_seals place rest
never_seals (Forgot s floor run) rest = refl
never_seals Filled rest = refl

pub facts_stand_in_batches : FactsStandInBatches
facts_stand_in_batches plan t fact is within fits =
    let one : is_one_line (chunk_fact_line plan t fact) ≡ true = line_inner (verb_of fact) ((row_at plan t).name ∷ own_words fact) (verb_plain fact) (words_plain plan t fact is within fits) in
    rw (one, never_seals fact (spaced ((row_at plan t).name ∷ own_words fact))) refl
