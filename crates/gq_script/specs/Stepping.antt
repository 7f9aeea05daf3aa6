-- Lines that are answered as they come.
use Rattle.std.specs.Prelude.{◌≡◌, ◌≢◌, ℕ, ◌≤◌, List, [], ◌∷◌, ◌++◌, Bool, false, map, All, Option, Ok, Err, IfErr}
use Rattle.std.specs.Io.KnownBytes.{Appends}
use Rattle.gq_world.specs.Tables.{Stands}
use Rattle.gq_text.specs.declared.plan_text.TextFault.TheVariants.{End}
use Rattle.gq_text.specs.declared.plan_text.PlanText.{PlanText}
use Rattle.gq_text.specs.declared.plan_text.PlanText.TheVariants.{Fault}
use Rattle.gq_script.specs.declared.script.RunFault.{RunFault}
use Rattle.gq_script.specs.declared.script.RunFault.TheVariants.{Plan as PlanFault, Write as RunWrite}
use Rattle.gq_script.specs.declared.stepping.TellFault.{TellFault}
use Rattle.gq_script.specs.declared.stepping.TellFault.TheVariants.{Lines as NotAnswered, Write as NotWritten}
use Rattle.gq_script.specs.Faults.{of_plan}
use Rattle.gq_script.specs.declared.stepping.Stage.{Stage}
use Rattle.gq_script.specs.declared.stepping.Stage.TheVariants.{Plan, Lines}
use Rattle.gq_lines.specs.Lines.{lines_of}
use Rattle.gq_text.specs.Input.{event_of}
use Rattle.gq_lines.specs.Words.{words_of}
use Rattle.gq_text.specs.PlanText.{is_room, rows_from, plan_of, IsFaultOf}
use Rattle.gq_lines.specs.Written.{Extends}
use Rattle.gq_script.specs.Out.{out}
use Rattle.gq_script.specs.Completing.{missing_newline}

-- each line of the text has ended
abbrev pub AllEnded : List ℕ → Type 0
AllEnded text = missing_newline text ≡ []

-- no line of the text has ended
abbrev pub NoneEnded : List ℕ → Type 0
NoneEnded text = All (λ byte. byte ≢ 10) text

-- what is written for lines that have ended is never taken back: whatever comes behind them, the output goes on from theirs
abbrev pub OutputsGrow : Type 0
OutputsGrow = (lines rest : List ℕ) → AllEnded lines → Extends (out lines) (out (lines ++ rest))

-- of what was read the lines that have ended were answered, and nothing else: the output of these lines was appended
pub record AnswersEnded (read : List ℕ) (old new : Option (List ℕ)) : Type 0 where
  pub ended : List ℕ
  pub begun : List ℕ
  pub parts : read ≡ ended ++ begun
  pub ends : AllEnded ended
  pub none : NoneEnded begun
  pub answered : Appends old new (out ended)
  -- no fault of the plan was known by these lines: if they tell one, it is that they end before `go`
  pub known : IfErr (plan_of (lines_of ended)) (λ fault. fault.1 ≡ End)

-- a fault of the plan is the one that the lines tell
abbrev pub IsPlanFaultIn : List (List ℕ) → RunFault → Type 0
IsPlanFaultIn lines (PlanFault line fault) = plan_of lines ≡ Err (line, fault)
IsPlanFaultIn lines fault = Unit {0}

-- it is one of the plan
abbrev pub IsOfPlan : RunFault → Type 0
IsOfPlan (PlanFault line fault) = Unit {0}
IsOfPlan fault = ⊥

-- it is a fault whatever comes behind these lines, and not only that they end
abbrev pub IsFinal : PlanText → Type 0
IsFinal (Fault line End) = ⊥
IsFinal fault = Unit {0}

-- why lines were not told, as it is told of the run
abbrev pub of_telling : TellFault → RunFault
of_telling (NotAnswered fault) = of_plan fault
of_telling NotWritten = RunWrite

-- what is at fault in the lines is their plan, as they tell it
abbrev pub IsTellFaultOf : List (List ℕ) → TellFault → Type 0
IsTellFaultOf lines (NotAnswered fault) = IsFaultOf (plan_of lines) fault
IsTellFaultOf lines NotWritten = Unit {0}

-- where lines are at fault, they are whatever comes behind them
abbrev pub IsLast : TellFault → Type 0
IsLast (NotAnswered fault) = IsFinal fault
IsLast NotWritten = Unit {0}

-- whether the second line is one of `room`
abbrev pub room_in : List (List ℕ) → Bool
room_in (first ∷ second ∷ lines) = is_room (words_of second)
room_in _ = false

-- from whichever number on, the lines tell rows, of a plan with room or not, and `go` is missing behind them
abbrev pub MissesGo : (room : Bool) → List (List ℕ) → Type 0
MissesGo room lines = (first : ℕ) → (n : ℕ) × (first ≤ n) × (rows_from room first lines ≡ Err (n, End))

-- these lines were answered: either they are the beginning of a plan, or the world stands for those after the plan
abbrev pub HasAnswered : Stage → List (List ℕ) → Type 0
HasAnswered (Plan missing) lines = (n : ℕ) × (missing ≤ n) × (plan_of lines ≡ Err (n, End))
HasAnswered (Lines world) lines = (left : List (List ℕ)) × (plan_of lines ≡ Ok (world.tables.plan, left)) × Stands world.tables (map (event_of world.tables.plan) left)
