-- What `history` writes: the history of a file's operations as Jepsen has it, a map of EDN in each line.
use Rattle.std.specs.Prelude.{◌≡◌, ℕ, ◌+◌, List, [], ◌∷◌, ◌++◌, Option, Some, None, Ok, Err, codes, decimal, length, option_map, slice_get, slice_index}
use Rattle.std.specs.Io.KnownBytes.{Appends}
use Rattle.hex.specs.Hex.{encode_lower}
use Rattle.gq_tag.specs.Tag.{File}
use Rattle.gq_desk.specs.CheckedPlan.{CheckedPlan}
use Rattle.gq_history.specs.declared.moments.Moment.{Moment}
use Rattle.gq_history.specs.declared.moments.Stage.{Stage}
use Rattle.gq_history.specs.declared.moments.Stage.TheVariants.{Begins, Ends, StaysOpen}
use Rattle.gq_history.specs.Moments.{IsHistory}
use Rattle.gq_laws.specs.declared.ops.Kind.{Kind}
use Rattle.gq_laws.specs.declared.ops.Kind.TheVariants.{Write as Writes, Read as Reads, Row as Rows}
use Rattle.gq_laws.specs.declared.ops.Op.{Op}
use Rattle.gq_text.specs.Input.{place_named}
use Rattle.gq_lines.specs.Lines.{lines_of}
use Rattle.gq_text.specs.PlanText.{Reading, plan_of}
use Rattle.gq_streams.specs.Watched.{AppendsPrefix}
use Rattle.gq_lines.specs.Words.{Word}
use Rattle.gq_script.specs.Linearizable.{operations_of}

-- ---- the words of a moment

abbrev pub stage_word : Stage → Word
stage_word Begins = codes "invoke"
stage_word Ends = codes "ok"
stage_word StaysOpen = codes "info"

abbrev pub function_word : Kind → Word
function_word (Writes bytes) = codes "write"
function_word (Reads given) = codes "read"
function_word (Rows length) = codes "length"

-- a content between quotes (34), two digits for each byte
abbrev pub quoted : List ℕ → Word
quoted bytes = 34 ∷ encode_lower bytes ++ 34 ∷ []

-- the word of what an operation gave
abbrev pub given_word : {A : Type 0} → (A → Word) → Option A → Word
given_word word None = codes "nil"
given_word word (Some given) = word given

-- what an operation gives is known once it has ended
abbrev pub known : Stage → Word → Word
known Begins word = codes "nil"
known Ends word = word
known StaysOpen word = codes "nil"

-- what an operation writes, or what is known of what it gives: a content, or a length in bytes
abbrev pub value_word : Stage → Kind → Word
value_word stage (Writes bytes) = quoted bytes
value_word stage (Reads given) = known stage (given_word quoted given)
value_word stage (Rows length) = known stage (given_word decimal length)

-- ---- the text of a history

-- the line of a moment of the operation; lines are numbered from this first one
abbrev pub moment_text : ℕ → ℕ → Moment → Op → List ℕ
moment_text first index m a =
    codes "{:index " ++ decimal index
    ++ codes ", :time " ++ decimal (m.line + first)
    ++ codes ", :type :" ++ stage_word m.stage
    ++ codes ", :process " ++ decimal m.process
    ++ codes ", :f :" ++ function_word a.kind
    ++ codes ", :value " ++ value_word m.stage a.kind
    ++ (codes "}" ++ 10 ∷ [])

-- the same, where the moment has the place of its operation; nothing where there is none
abbrev pub moment_text_in : ℕ → ℕ → List Op → Moment → List ℕ
moment_text_in first index ops m = by (slice_get ops m.place)
  where
    by : Option Op → List ℕ
    by None = []
    by (Some a) = moment_text first index m a

-- the lines of moments, of which the first has this index
abbrev pub moments_text : ℕ → ℕ → List Op → List Moment → List ℕ
moments_text first index ops [] = []
moments_text first index ops (m ∷ moments) = moment_text_in first index ops m ++ moments_text first (index + 1) ops moments

-- the text of the history of the operations in so many lines, numbered from this first one
pub record TellsHistory (first lines : ℕ) (ops : List Op) (text : List ℕ) : Type 0 where
  pub moments : List Moment
  pub are : IsHistory lines ops moments
  pub told : text ≡ moments_text first 0 ops moments

-- ---- of an input

-- the number of the first line behind a plan, from 1: its rows begin in line 3 and are followed by `go`
abbrev pub line_behind : CheckedPlan → ℕ
line_behind plan = length plan.rows + 4

-- the history of the file of the tenant at place t, where these lines come after the plan
abbrev pub IsHistoryOf : CheckedPlan → List (List ℕ) → ℕ → File → List ℕ → Type 0
IsHistoryOf plan lines t file text = TellsHistory (line_behind plan) (length lines) (operations_of plan lines t file) text

-- the history of the file of the tenant of this name, in what was read of an input
abbrev pub IsHistoryIn : Reading (CheckedPlan × List (List ℕ)) → List ℕ → File → List ℕ → Type 0
IsHistoryIn (Ok read) name file text = by (place_named read.0 name)
  where
    by : Option ℕ → Type 0
    by None = ⊥
    by (Some t) = IsHistoryOf read.0 read.1 t file text
IsHistoryIn (Err fault) name file text = ⊥

-- the text that is written for the input, the name and the file
abbrev pub IsHistoryText : List ℕ → List ℕ → File → List ℕ → Type 0
IsHistoryText input name file text = IsHistoryIn (plan_of (lines_of input)) name file text

-- it was appended, or a prefix of it
abbrev pub AppendsHistory : List ℕ → List ℕ → File → Option (List ℕ) → Option (List ℕ) → Type 0
AppendsHistory input name file old new = (text : List ℕ) × IsHistoryText input name file text × Appends old new text

abbrev pub AppendsHistoryPrefix : List ℕ → List ℕ → File → Option (List ℕ) → Option (List ℕ) → Type 0
AppendsHistoryPrefix input name file old new = (text : List ℕ) × IsHistoryText input name file text × AppendsPrefix old new text

-- ---- operations at other places

-- the operation, where the i-th of the lines that were seen stands at the i-th of these places
abbrev pub placed : List ℕ → Op → Op
placed places a = record { kind = a.kind; session = a.session; op = a.op; begin = slice_index places a.begin; end = option_map (slice_index places) a.end; tag = a.tag }
