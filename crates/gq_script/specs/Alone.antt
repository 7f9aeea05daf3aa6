-- Each tenant is told what its run by itself says.
use Rattle.std.specs.Prelude.{◌≡◌, ◌≤◌, ℕ, List, [], ◌∷◌, ◌++◌, Bool, ◌||◌, ◌==◌, Option, Some, None, Ok, length, filter, map, Contains, codes, if◌then◌else◌}
use Rattle.std.specs.List.{before_first, filter_map}
use Rattle.std.specs.Str.{bytes_eq}
use Rattle.gq_grid.specs.Grid.{Grid}
use Rattle.gq_desk.specs.CheckedPlan.{CheckedPlan}
use Rattle.gq_desk.specs.declared.plans.TenantRow.{TenantRow}
use Rattle.gq_model.specs.declared.events.Event.{Event}
use Rattle.gq_model.specs.Told.{Told}
use Rattle.gq_model.specs.Trace.{Turn, Own, Serving, Leaping, Losing, Returning}
use Rattle.gq_model.specs.Lone.{lone}
use Rattle.gq_laws.specs.Tenants.{answers_from}
use Rattle.gq_script.specs.declared.script.TheConstants.{MOST_INPUT}
use Rattle.gq_lines.specs.Words.{Word, words_of}
use Rattle.gq_lines.specs.Lines.{lines_of}
use Rattle.gq_text.specs.Input.{event_of, line_of, server_line_of}
use Rattle.gq_text.specs.PlanText.{plan_of}
use Rattle.gq_lines.specs.Written.{spaced}
use Rattle.gq_text.specs.AnswerText.{told_words, who}
use Rattle.gq_script.specs.Out.{lines_by, out}

-- the bytes of a line before its first space
abbrev pub first_word_of : List ℕ → Word
first_word_of line = before_first (λ c. c == 32) line

-- whether the line is one of the tenant of this name; a server line
abbrev pub is_own : Word → List ℕ → Bool
is_own name line = bytes_eq (first_word_of line) name

abbrev pub is_serving : List ℕ → Bool
is_serving line = bytes_eq (first_word_of line) (codes "server")

-- the tenant's lines and the server lines, in order
abbrev pub seen_lines : Word → List (List ℕ) → List (List ℕ)
seen_lines name lines = filter (λ line. is_own name line || is_serving line) lines

-- of the answers to the lines, those to the tenant's
abbrev pub lines_to : Word → List (List ℕ) → List (List ℕ) → List (List ℕ)
lines_to name (line ∷ lines) (answer ∷ answers) = if is_own name line then answer ∷ lines_to name lines answers else lines_to name lines answers
lines_to name _ _ = []

-- what the tenant sees of a line of these words
abbrev pub turn_from : Word → List Word → Option Turn
turn_from name [] = None
turn_from name (first ∷ words) =
    if bytes_eq first (codes "server") then Some (Serving (server_line_of words))
    else if bytes_eq first name then Some (Own (line_of words))
    else None

-- what the tenant sees of the lines
abbrev pub turns_of : Word → List (List ℕ) → List Turn
turns_of name lines = filter_map (λ line. turn_from name (words_of line)) lines

-- what is told to whoever has this name, as a line of a text without the newline that ends it
abbrev pub told_text : Grid → Word → Told → List ℕ
told_text grid name told = name ++ spaced (told_words grid told)

-- what is told to the tenant's own turns
abbrev pub own_text : Grid → Word → List Turn → List Told → List (List ℕ)
own_text grid name (Own line ∷ turns) (told ∷ more) = told_text grid name told ∷ own_text grid name turns more
own_text grid name (Serving line ∷ turns) (told ∷ more) = own_text grid name turns more
own_text grid name (Leaping k op number ∷ turns) (told ∷ more) = own_text grid name turns more
own_text grid name (Losing s volumes ∷ turns) (told ∷ more) = own_text grid name turns more
own_text grid name (Returning s f peer copy ∷ turns) (told ∷ more) = own_text grid name turns more
own_text grid name _ _ = []

-- what the tenant is told in its run by itself over the lines
abbrev pub lone_text : Grid → TenantRow → List (List ℕ) → List (List ℕ)
lone_text grid row lines = own_text grid row.name (turns_of row.name lines) (lone grid row (turns_of row.name lines))

-- the input is accepted, with this plan and these lines after `go`
pub record Accepts (input : List ℕ) (plan : CheckedPlan) (lines : List (List ℕ)) : Type 0 where
  pub small : length input ≤ MOST_INPUT
  pub read : plan_of (lines_of input) ≡ Ok (plan, lines)

-- the answers to events, those before them being so, and to lines, one for each
abbrev pub answer_texts : CheckedPlan → List Event → List Event → List (List ℕ)
answer_texts plan before events = lines_by (λ event. told_text plan.grid (who plan event)) events (answers_from plan before events)

abbrev pub answers_to : CheckedPlan → List (List ℕ) → List (List ℕ)
answers_to plan lines = answer_texts plan [] (map (event_of plan) lines)

-- the lines of a text are the answers to the lines of an input after `go`, one for each
pub record Answers (plan : CheckedPlan) (lines : List (List ℕ)) (text : List ℕ) : Type 0 where
  pub are : lines_of text ≡ answers_to plan lines
  pub each : length (lines_of text) ≡ length lines

-- the input is accepted, and its output answers each of its lines by one line
pub record IsAnswered (input : List ℕ) : Type 0 where
  pub plan : CheckedPlan
  pub lines : List (List ℕ)
  pub accepts : Accepts input plan lines
  pub answers : Answers plan lines (out input)

-- the output of each accepted input does so
abbrev pub AnswersEachLine : Type 0
AnswersEachLine = (input : List ℕ) (plan : CheckedPlan) (lines : List (List ℕ)) → Accepts input plan lines → Answers plan lines (out input)

-- of the lines of the output, a tenant's are those of its run by itself over its own lines and the server lines
abbrev pub TellsAsAlone : Type 0
TellsAsAlone = (input : List ℕ) (plan : CheckedPlan) (lines : List (List ℕ)) (row : TenantRow) → Accepts input plan lines → Contains plan.rows row
    → lines_to row.name lines (lines_of (out input)) ≡ lone_text plan.grid row (seen_lines row.name lines)

-- in two accepted inputs whose plans agree on the grid and one tenant's row, and which agree on that tenant's lines and the server lines in order, its lines of the output are the same
abbrev pub TellsTheSame : Type 0
TellsTheSame = (input input' : List ℕ) (plan plan' : CheckedPlan) (lines lines' : List (List ℕ)) (row : TenantRow)
    → Accepts input plan lines → Accepts input' plan' lines'
    → plan.grid ≡ plan'.grid → Contains plan.rows row → Contains plan'.rows row
    → seen_lines row.name lines ≡ seen_lines row.name lines'
    → lines_to row.name lines (lines_of (out input)) ≡ lines_to row.name lines' (lines_of (out input'))
