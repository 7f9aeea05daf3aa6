-- What is read of the lines of facts.
use Rattle.std.specs.Prelude.{◌≡◌, ◌<◌, ◌^◌, length, true, Some}
use Rattle.gq_desk.specs.CheckedPlan.{CheckedPlan}
use Rattle.gq_text.specs.Canonical.{IsPlan, IsNumber}
use Rattle.gq_cluster.specs.Facts.{OwnFact, Begun, Numbered, Kept, Had}
use Rattle.gq_node.specs.declared.output.Fact.{Fact}
use Rattle.gq_node.specs.Recalling.{tenant_of, own_fact}
use Rattle.gq_wire.specs.Laws.{FitsCopy}
use Rattle.gq_journal.specs.Batches.{is_batch_line}
use Rattle.gq_facts.specs.Facts.{fact_line, fact_of_line}

-- the numbers of a fact fit in the words of a line
abbrev pub FitsOwn : OwnFact → Type 0
FitsOwn (Begun session op) = (session < 256) × IsNumber op
FitsOwn (Numbered session number) = (session < 256) × (number < 2 ^ 64)
FitsOwn (Kept file copy) = IsNumber file.volume × IsNumber file.place × FitsCopy copy
FitsOwn (Had file copy) = IsNumber file.volume × IsNumber file.place × FitsCopy copy

-- the fact is of a tenant of the plan, and its numbers fit
pub record FitsFact (plan : CheckedPlan) (fact : Fact) : Type 0 where
  pub tenant : tenant_of fact < length plan.rows
  pub own : FitsOwn (own_fact fact)

-- the line of a fact is read as that fact
abbrev pub FactsReadBack : Type 0
FactsReadBack = (plan : CheckedPlan) (fact : Fact) → IsPlan plan → FitsFact plan fact → fact_of_line plan (fact_line plan fact) ≡ Some fact

-- the line of a fact may stand in a batch of a journal
abbrev pub FactsStandInBatches : Type 0
FactsStandInBatches = (plan : CheckedPlan) (fact : Fact) → IsPlan plan → FitsFact plan fact → is_batch_line (fact_line plan fact) ≡ true
