-- The line of a fact is read as that fact, and may stand in a batch.
use Rattle.std.proofs.Common.{◌≡◌, ℕ, List, ◌∷◌, ◌++◌, Some, true, false, refl, ap, ◌∙◌, arith}
use Rattle.gq_desk.specs.CheckedPlan.{CheckedPlan}
use Rattle.gq_lines.specs.Written.{spaced}
use Rattle.gq_text.specs.Canonical.{IsPlan}
use Rattle.gq_lines.proofs.Numbers.{numbers_read_back, long_numbers_read_back}
use Rattle.gq_lines.proofs.Plain.{is_plain, are_plain, decimal_plain, long_plain, line_inner}
use Rattle.gq_lines.proofs.LinesBack.{words_back}
use Rattle.gq_cluster.specs.Facts.{OwnFact, Begun, Numbered, Kept, Had}
use Rattle.gq_node.specs.declared.output.Fact.{Fact}
use Rattle.gq_node.specs.declared.output.Fact.TheVariants.{Began, Numbered as HasNumber, Kept as IsKept, Had as WasGiven}
use Rattle.gq_node.specs.Recalling.{tenant_of, own_fact}
use Rattle.gq_node.specs.Tables.{fact_of}
use Rattle.gq_wire.proofs.ValuesBack.{byte_back, copy_plain, copy_back, name_is_plain, place_back}
use Rattle.gq_journal.specs.Batches.{is_one_line, is_sealing}
use Rattle.gq_facts.specs.Facts.{verb_of, own_words, fact_words, fact_line, fact_of_words, own_fact_by, fact_by}
use Rattle.gq_facts.specs.Laws.{FitsOwn, FitsFact, FactsReadBack, FactsStandInBatches}

verb_plain : (own : OwnFact) → is_plain (verb_of own) ≡ true
verb_plain (Begun s o) = refl
verb_plain (Numbered s n) = refl
verb_plain (Kept file copy) = refl
verb_plain (Had file copy) = refl

own_plain : (own : OwnFact) → FitsOwn own → are_plain (own_words own) ≡ true
own_plain (Begun s o) fits = rw (decimal_plain s (omega (arith, fits.0)), decimal_plain o fits.1) refl
own_plain (Numbered s n) fits = rw (decimal_plain s (omega (arith, fits.0)), long_plain n fits.1) refl
own_plain (Kept file copy) fits = rw (decimal_plain file.volume fits.0, decimal_plain file.place fits.1) (copy_plain copy fits.2)
own_plain (Had file copy) fits = rw (decimal_plain file.volume fits.0, decimal_plain file.place fits.1) (copy_plain copy fits.2)

words_plain : (plan : CheckedPlan) (fact : Fact) → IsPlan plan → FitsFact plan fact → are_plain (fact_words plan fact) ≡ true
words_plain plan fact is fits = rw (name_is_plain plan (tenant_of fact) is fits.tenant) (own_plain (own_fact fact) fits.own)

-- ---- read back

own_back : (own : OwnFact) → FitsOwn own → own_fact_by (verb_of own) (own_words own) ≡ Some own
own_back (Begun s o) fits = rw (numbers_read_back s (omega (arith, fits.0)), byte_back s fits.0, numbers_read_back o fits.1) refl
own_back (Numbered s n) fits = rw (numbers_read_back s (omega (arith, fits.0)), byte_back s fits.0, long_numbers_read_back n fits.1) refl
own_back (Kept file copy) fits = rw (numbers_read_back file.volume fits.0, numbers_read_back file.place fits.1, copy_back copy fits.2) refl
own_back (Had file copy) fits = rw (numbers_read_back file.volume fits.0, numbers_read_back file.place fits.1, copy_back copy fits.2) refl

-- a fact is that of its tenant
its_own : (fact : Fact) → fact_of (tenant_of fact) (own_fact fact) ≡ fact
its_own (Began t s o) = refl
its_own (HasNumber t s n) = refl
its_own (IsKept file copy) = refl
its_own (WasGiven file copy) = refl

fact_back : (fact : Fact) → FitsOwn (own_fact fact) → fact_by (verb_of (own_fact fact)) (tenant_of fact) (own_words (own_fact fact)) ≡ Some fact
fact_back fact fits = rw (own_back (own_fact fact) fits) (ap (λ f. Some f) (its_own fact))

words_are : (plan : CheckedPlan) (fact : Fact) → IsPlan plan → FitsFact plan fact → fact_of_words plan (verb_of (own_fact fact) ∷ fact_words plan fact) ≡ Some fact
unfolding fact_of_words
words_are plan fact is fits = rw (place_back plan (tenant_of fact) is fits.tenant) (fact_back fact fits.own)

pub facts_read_back : FactsReadBack
facts_read_back plan fact is fits =
    ap (fact_of_words plan) (words_back (verb_of (own_fact fact)) (fact_words plan fact) (verb_plain (own_fact fact)) (words_plain plan fact is fits))
    ∙ words_are plan fact is fits

-- ---- in a batch

never_seals : (own : OwnFact) (rest : List ℕ) → is_sealing (verb_of own ++ rest) ≡ false
never_seals (Begun s o) rest = refl
never_seals (Numbered s n) rest = refl
never_seals (Kept file copy) rest = refl
never_seals (Had file copy) rest = refl

pub facts_stand_in_batches : FactsStandInBatches
facts_stand_in_batches plan fact is fits =
    let one : is_one_line (fact_line plan fact) ≡ true = line_inner (verb_of (own_fact fact)) (fact_words plan fact) (verb_plain (own_fact fact)) (words_plain plan fact is fits) in
    rw (one, never_seals (own_fact fact) (spaced (fact_words plan fact))) refl
