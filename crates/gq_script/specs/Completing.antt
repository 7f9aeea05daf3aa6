-- Each operation that an input leaves going can be completed by more lines of its tenant.
use Rattle.std.specs.Prelude.{◌≡◌, ℕ, ◌+◌, ◌≤◌, List, [], ◌∷◌, ◌++◌, ◌==◌, false, Some, All, Contains, length, map, codes, if◌then◌else◌}
use Rattle.std.specs.List.{flat_map}
use Rattle.gq_grid.specs.Grid.{Grid}
use Rattle.gq_desk.specs.CheckedPlan.{CheckedPlan}
use Rattle.gq_desk.specs.declared.plans.TenantRow.{TenantRow}
use Rattle.gq_phase.specs.declared.Outcome.{Outcome}
use Rattle.gq_phase.specs.Phase.{Task, Operation}
use Rattle.gq_model.specs.declared.events.Line.{Line}
use Rattle.gq_model.specs.declared.events.Line.TheVariants.{Deliver, Retry}
use Rattle.gq_model.specs.Told.{Told, Done}
use Rattle.gq_model.specs.Trace.{Own, State, operation, task_of}
use Rattle.gq_model.specs.Lone.{is_refusal, said, past_of, first_operation}
use Rattle.gq_model.specs.Events.{IsRequestOf}
use Rattle.gq_laws.specs.Progress.{deliveries_left, IsOutcomeOf, QuorumsUp, state_after, StepsLeft}
use Rattle.gq_script.specs.declared.script.TheConstants.{MOST_INPUT}
use Rattle.gq_lines.specs.Words.{Word}
use Rattle.gq_lines.specs.Written.{line_text}
use Rattle.gq_text.specs.AnswerText.{told_words}
use Rattle.gq_text.specs.Canonical.{line_words, FitsLine}
use Rattle.gq_lines.specs.Lines.{joined}
use Rattle.gq_script.specs.Out.{out, IsAccepted}
use Rattle.gq_script.specs.Alone.{turns_of, Accepts}

-- the newline that ends the last line of a text, where the text has none there
abbrev pub missing_newline : List ℕ → List ℕ
missing_newline [] = []
missing_newline (x ∷ []) = if x == 10 then [] else 10 ∷ []
missing_newline (x ∷ y ∷ text) = missing_newline (y ∷ text)

-- the text of lines of the tenant of this name, as `NAME retry K` and `NAME deliver N`
abbrev pub own_lines : Word → List Line → List ℕ
own_lines name lines = flat_map (λ line. line_text name (line_words line)) lines

-- the input, and behind it these lines of the tenant
abbrev pub longer : List ℕ → Word → List Line → List ℕ
longer input name lines = input ++ missing_newline input ++ own_lines name lines

-- the line of what is told to the tenant
abbrev pub told_line : Grid → Word → Told → List ℕ
told_line grid name told = line_text name (told_words grid told)

-- the line tells a refusal to the tenant of this name
abbrev pub IsRefusal : Word → List ℕ → Type 0
IsRefusal name line = (rest : List ℕ) × (line ≡ name ++ codes " refused" ++ rest)

-- the operation comes to its end by this line of the tenant behind the input, and behind it by deliveries of the messages of
-- these numbers
pub record CompletesBy (input : List ℕ) (grid : Grid) (name : Word) (o : Operation) (line : Line) (numbers : List ℕ) : Type 0 where
  -- the last of the lines is answered by how this operation ended
  pub outcome : Outcome
  pub its : IsOutcomeOf o outcome
  -- the lines before it are answered by these, one each, and none is refused
  pub before : List Told
  pub each : length before ≡ length numbers
  pub accepted : All (λ told. IsRefusal name (told_line grid name told) → ⊥) before
  -- the output of the longer input is that of the input, and then these answers, a line for each
  pub output : out (longer input name (line ∷ map Deliver numbers)) ≡ out input ++ joined (map (told_line grid name) (before ++ Done outcome ∷ []))
  -- the longer input is accepted, unless it is longer than any input may be
  pub small : length (longer input name (line ∷ map Deliver numbers)) ≤ MOST_INPUT → IsAccepted (longer input name (line ∷ map Deliver numbers))

-- there are such messages, and they are few
pub record CompletesBehind (input : List ℕ) (grid : Grid) (name : Word) (o : Operation) (line : Line) : Type 0 where
  pub numbers : List ℕ
  pub few : length numbers ≤ deliveries_left grid o
  pub completes : CompletesBy input grid name o line numbers

-- what the questions to the tenant's run say after the lines
abbrev pub state_of : Grid → TenantRow → List (List ℕ) → State
state_of grid row lines = state_after grid row (turns_of row.name lines)

-- the operation can be completed after the lines
pub record MayComplete (grid : Grid) (row : TenantRow) (lines : List (List ℕ)) (o : Operation) : Type 0 where
  -- the servers that are up have a quorum for either kind of round
  pub up : QuorumsUp grid (state_of grid row lines).up
  -- steps of the tenant are left for one line and all deliveries
  pub steps : StepsLeft grid row (turns_of row.name lines) (1 + deliveries_left grid o)

-- whatever the lines of an accepted input, each operation that they leave going in session k of a tenant is completed by
-- `retry` and deliveries
abbrev pub AllInputsComplete : Type 0
AllInputsComplete = (input : List ℕ) (plan : CheckedPlan) (lines : List (List ℕ)) (row : TenantRow) (k : ℕ) (o : Operation) → Accepts input plan lines → Contains plan.rows row
    → operation (state_of plan.grid row lines) k ≡ Some o → MayComplete plan.grid row lines o
    → CompletesBehind input plan.grid row.name o (Retry k)

-- after the lines this line of the tenant asks session k for the task, and is accepted
pub record IsAcceptedRequest (grid : Grid) (row : TenantRow) (lines : List (List ℕ)) (k : ℕ) (line : Line) (task : Task) : Type 0 where
  pub asks : IsRequestOf k line
  pub begins : task_of (state_of grid row lines).volumes line ≡ Some task
  pub accepted : is_refusal (said grid row (past_of grid row (turns_of row.name lines)) (Own line)) ≡ false
  -- its numbers and its content can be written
  pub fits : FitsLine line

-- such a request is completed by deliveries alone
abbrev pub AllInputRequestsComplete : Type 0
AllInputRequestsComplete = (input : List ℕ) (plan : CheckedPlan) (lines : List (List ℕ)) (row : TenantRow) (k : ℕ) (line : Line) (task : Task) → Accepts input plan lines → Contains plan.rows row
    → IsAcceptedRequest plan.grid row lines k line task → MayComplete plan.grid row lines (first_operation (state_of plan.grid row lines) k task)
    → CompletesBehind input plan.grid row.name (first_operation (state_of plan.grid row lines) k task) line
