-- What is written for an input.
use Rattle.std.specs.Prelude.{◌≡◌, ◌≤◌, ℕ, List, [], ◌∷◌, map, length, Ok, Err, IsOk}
use Rattle.gq_desk.specs.CheckedPlan.{CheckedPlan}
use Rattle.gq_model.specs.declared.events.Event.{Event}
use Rattle.gq_model.specs.Events.{answer_to}
use Rattle.gq_model.specs.Told.{Told}
use Rattle.gq_laws.specs.Tenants.{answers_from}
use Rattle.gq_script.specs.declared.script.TheConstants.{MOST_INPUT}
use Rattle.gq_script.specs.declared.script.RunFault.{RunFault}
use Rattle.gq_script.specs.declared.script.RunFault.TheVariants.{Plan}
use Rattle.gq_lines.specs.Lines.{lines_of, joined}
use Rattle.gq_text.specs.Input.{event_of, event_cut}
use Rattle.gq_text.specs.PlanText.{Reading, plan_of}
use Rattle.gq_text.specs.AnswerText.{answer_line}

-- each event with what is told to it, in this form
abbrev pub lines_by : (Event → Told → List ℕ) → List Event → List Told → List (List ℕ)
lines_by form (event ∷ events) (told ∷ more) = form event told ∷ lines_by form events more
lines_by form _ _ = []

-- the lines that answer the events, those before them being so, each with the newline that ends it
abbrev pub answer_lines : CheckedPlan → List Event → List Event → List (List ℕ)
answer_lines plan before events = lines_by (answer_line plan) events (answers_from plan before events)

-- the answer line to a line that is cut behind its first word, after these events
abbrev pub line_cut : CheckedPlan → List Event → List ℕ → List ℕ → List ℕ
line_cut plan before first rest = answer_line plan (event_cut plan first rest) (answer_to plan before (event_cut plan first rest))

-- one line for each line after `go`
abbrev pub output_lines : CheckedPlan → List (List ℕ) → List (List ℕ)
output_lines plan lines = answer_lines plan [] (map (event_of plan) lines)

-- the output of what was read of an input
abbrev pub output_of : Reading (CheckedPlan × List (List ℕ)) → List ℕ
output_of (Ok read) = joined (output_lines read.0 read.1)
output_of (Err fault) = []

-- the whole output of an input whose plan is accepted
abbrev pub out : List ℕ → List ℕ
out input = output_of (plan_of (lines_of input))

-- the input is small enough, and its plan is accepted
pub record IsAccepted (input : List ℕ) : Type 0 where
  pub small : length input ≤ MOST_INPUT
  pub plan : IsOk (plan_of (lines_of input))

-- a fault of the plan is the one that the lines of the input tell
abbrev pub IsPlanFaultOf : List ℕ → RunFault → Type 0
IsPlanFaultOf input (Plan line fault) = (length input ≤ MOST_INPUT) × (plan_of (lines_of input) ≡ Err (line, fault))
IsPlanFaultOf input _ = Unit {0}
