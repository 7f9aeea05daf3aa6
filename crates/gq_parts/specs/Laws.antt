-- What a run of a node comes to, tenant by tenant.
use Rattle.std.specs.Prelude.{◌≡◌, ℕ, ◌<◌, List, [], ◌∷◌, ◌++◌, Bool, filter, length, All}
use Rattle.std.specs.List.{flat_map}
use Rattle.gq_desk.specs.CheckedPlan.{CheckedPlan}
use Rattle.gq_text.specs.Canonical.{IsPlan}
use Rattle.gq_keeper.specs.Runs.{Did, Runs, lines_of, facts_of}
use Rattle.gq_keeper.specs.Starting.{RecallsAll}
use Rattle.gq_parts.specs.Within.{taken, after_taken}
use Rattle.gq_node.specs.Local.{Local}
use Rattle.gq_node.specs.Resting.{recall_all, those_of}
use Rattle.gq_node.specs.Sites.{Here, site_of}
use Rattle.gq_node.specs.Tables.{Tables, Agrees}
use Rattle.gq_facts.specs.Laws.{FitsFact}
use Rattle.gq_wire.specs.Incoming.{incoming_of}
use Rattle.gq_parts.specs.Inputs.{is_for, line_inputs, lines_inputs}
use Rattle.gq_parts.specs.Texts.{written_for, own_facts, written_by, facts_by, parts_after, line_text_of}
use Rattle.gq_parts.specs.Steps.{AllAgree, fact_lines, StepsTo}
use Rattle.gq_parts.specs.Recalls.{RecallsTo, facts_said}
use Rattle.gq_parts.specs.Resting.{IsNodeOf}

-- ---- a run, by the tenants' parts

-- what each step tells is what is written for the tenants by their parts, in plan order, and behind it what the node itself writes to other nodes; its
-- facts are those of the parts, and fit in lines
abbrev pub TellsEach : CheckedPlan → Here → (ℕ → Local) → List Did → Type 0
TellsEach plan here parts [] = Unit {0}
TellsEach plan here parts (did ∷ dids) =
    (did.told ≡ written_by plan here parts (line_inputs plan here did.line) ++ line_text_of plan here did.line (parts_after plan here parts (line_inputs plan here did.line)))
    × (did.facts ≡ fact_lines plan (facts_by plan here parts (line_inputs plan here did.line)))
    × All (FitsFact plan) (facts_by plan here parts (line_inputs plan here did.line))
    × TellsEach plan here (parts_after plan here parts (line_inputs plan here did.line)) dids

-- a run of a node that had these parts at first: what each step tells is that of the parts, and in the end each part is what its own
-- inputs made of it
pub record GoesByParts (plan : CheckedPlan) (here : Here) (parts : ℕ → Local) (dids : List Did) (last : Tables) : Type 0 where
  pub node : IsNodeOf plan here last
  pub told : TellsEach plan here parts dids
  pub ends : (t : ℕ) → t < length plan.rows → Agrees last t (after_taken (site_of plan here t) (parts t) (lines_inputs plan here (lines_of dids) t))

abbrev pub AllRunsByParts : Type 0
AllRunsByParts = (plan : CheckedPlan) (here : Here) (first last : Tables) (parts : ℕ → Local) (dids : List Did) →
    IsNodeOf plan here first → AllAgree first parts → Runs StepsTo first dids last → GoesByParts plan here parts dids last

-- ---- tenants are apart

-- what is written for the tenant at place t: a text for each line
abbrev pub texts_for : CheckedPlan → Here → (t : ℕ) → Local → List (List ℕ) → List (List ℕ)
texts_for plan here t local [] = []
texts_for plan here t local (line ∷ lines) =
    written_for plan here t local (line_inputs plan here line t)
    ∷ texts_for plan here t (after_taken (site_of plan here t) local (line_inputs plan here line t)) lines

-- all of it, one after another
abbrev pub text_for : CheckedPlan → Here → (t : ℕ) → Local → List (List ℕ) → List ℕ
text_for plan here t local lines = flat_map (λ text. text) (texts_for plan here t local lines)

-- it is what the tenant's own part writes of what the lines bring it
abbrev pub AllTextsByParts : Type 0
AllTextsByParts = (plan : CheckedPlan) (here : Here) (t : ℕ) (local : Local) (lines : List (List ℕ)) →
    text_for plan here t local lines ≡ written_for plan here t local (lines_inputs plan here lines t)

-- so where lines bring it the same, the same is written for it, whatever they bring to others
abbrev pub AllTenantsApart : Type 0
AllTenantsApart = (plan : CheckedPlan) (here : Here) (t : ℕ) (local : Local) (ones twos : List (List ℕ)) →
    lines_inputs plan here ones t ≡ lines_inputs plan here twos t → text_for plan here t local ones ≡ text_for plan here t local twos

-- so the lines of other tenants can be left out
abbrev pub is_line_for : CheckedPlan → Here → (t : ℕ) → List ℕ → Bool
is_line_for plan here t line = is_for t (incoming_of plan here.node line)

abbrev pub AllOthersLeftOut : Type 0
AllOthersLeftOut = (plan : CheckedPlan) (here : Here) (t : ℕ) (local : Local) (lines : List (List ℕ)) →
    text_for plan here t local (filter (is_line_for plan here t) lines) ≡ text_for plan here t local lines

-- ---- starts

-- a start makes of the part of the tenant at place t what this tenant's own facts make of it, whatever the other lines of the journal say
abbrev pub AllStartsByParts : Type 0
AllStartsByParts = (plan : CheckedPlan) (here : Here) (t : ℕ) (start : Local) (lines : List (List ℕ)) (old new : Tables) → IsNodeOf plan here old → Agrees old t start →
    RecallsAll RecallsTo old lines new → Agrees new t (recall_all (site_of plan here t) start (those_of t (facts_said plan lines)))

-- and the facts of a run that are of this tenant are those that its part gives by its own inputs
abbrev pub AllFactsByParts : Type 0
AllFactsByParts = (plan : CheckedPlan) (here : Here) (t : ℕ) (parts : ℕ → Local) (dids : List Did) → IsPlan plan → t < length plan.rows → TellsEach plan here parts dids →
    those_of t (facts_said plan (facts_of dids)) ≡ own_facts (site_of plan here t) (parts t) (taken (site_of plan here t) (parts t) (lines_inputs plan here (lines_of dids) t))
