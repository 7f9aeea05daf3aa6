-- What a line of a journal does to a node that starts.
use Rattle.std.specs.Prelude.{◌≡◌, ℕ, ◌<◌, List, length, Option, Some, None, Bool, true, false}
use Rattle.std.specs.List.{flat_map}
use Rattle.std.specs.Option.{option_to_list}
use Rattle.gq_desk.specs.CheckedPlan.{CheckedPlan}
use Rattle.gq_node.specs.declared.output.Fact.{Fact}
use Rattle.gq_node.specs.Local.{recalls}
use Rattle.gq_node.specs.Recalling.{tenant_of, own_fact, fits_in}
use Rattle.gq_node.specs.Tables.{Tables, Leads}
use Rattle.gq_facts.specs.Facts.{fact_of_line}

-- the fact fits, and does to the node what a start makes of it; it opens no volume
pub record IsRecalled (old : Tables) (fact : Fact) (new : Tables) : Type 0 where
  pub within : tenant_of fact < length old.plan.rows
  pub fits : fits_in old fact ≡ true
  pub leads : Leads old (tenant_of fact) (recalls (own_fact fact)) new
  pub desk : new.desk ≡ old.desk

-- a line that says no fact of a tenant of the plan is not read
abbrev pub RecallsFact : Tables → Option Fact → Tables → Type 0
RecallsFact old None new = ⊥
RecallsFact old (Some fact) new = IsRecalled old fact new

abbrev pub RecallsTo : Tables → List ℕ → Tables → Type 0
RecallsTo old line new = RecallsFact old (fact_of_line old.plan line) new

-- whether the line is read: it says a fact that fits
abbrev pub reads_fact : Tables → Option Fact → Bool
reads_fact w None = false
reads_fact w (Some fact) = fits_in w fact

abbrev pub reads_line : Tables → List ℕ → Bool
reads_line w line = reads_fact w (fact_of_line w.plan line)

-- the facts that lines say
abbrev pub facts_said : CheckedPlan → List (List ℕ) → List Fact
facts_said plan lines = flat_map (λ line. option_to_list (fact_of_line plan line)) lines
