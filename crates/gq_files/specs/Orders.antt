-- What `order` writes: the output of the run, and behind it the order of a file's operations.
use Rattle.std.specs.Prelude.{ℕ, List, [], ◌∷◌, ◌++◌, Option, Some, None, Ok, Err, IsOk, codes, decimal, map, slice_get}
use Rattle.gq_tag.specs.Tag.{File}
use Rattle.gq_desk.specs.CheckedPlan.{CheckedPlan}
use Rattle.gq_laws.specs.declared.ops.Kind.{Kind}
use Rattle.gq_laws.specs.declared.ops.Kind.TheVariants.{Write as Writes, Read as Reads, Row as Rows}
use Rattle.gq_laws.specs.declared.ops.Op.{Op}
use Rattle.gq_laws.specs.Operations.{ops_at}
use Rattle.gq_laws.specs.Orders.{order}
use Rattle.gq_lines.specs.Words.{Word}
use Rattle.gq_lines.specs.Lines.{lines_of, joined}
use Rattle.gq_text.specs.Input.{place_named}
use Rattle.gq_text.specs.PlanText.{Reading, plan_of, IsFaultOf, NamesTenant}
use Rattle.gq_lines.specs.Written.{content_word, line_text}
use Rattle.gq_script.specs.Linearizable.{operations_of}
use Rattle.gq_script.specs.Out.{out, IsPlanFaultOf}
use Rattle.gq_script.specs.Faults.{of_plan}
use Rattle.gq_files.specs.declared.asked_file.AskedFault.{AskedFault}
use Rattle.gq_files.specs.declared.asked_file.AskedFault.TheVariants.{Plan as AskedPlan, Name as Nobody}
use Rattle.gq_files.specs.declared.order.OrderFault.{OrderFault}
use Rattle.gq_files.specs.declared.order.OrderFault.TheVariants.{Run, Name}

-- the word of what an operation gave, if it gave something
abbrev pub given_words : {A : Type 0} → (A → Word) → Option A → List Word
given_words word None = []
given_words word (Some given) = word given ∷ []

-- the line of an operation: its kind, its session and its number, and what it wrote or gave
abbrev pub op_line : Op → List ℕ
op_line a = by a.kind
  where
    by : Kind → List ℕ
    by (Writes bytes) = line_text (codes "write") (decimal a.session ∷ decimal a.op ∷ content_word bytes ∷ [])
    by (Reads given) = line_text (codes "read") (decimal a.session ∷ decimal a.op ∷ given_words content_word given)
    by (Rows length) = line_text (codes "row") (decimal a.session ∷ decimal a.op ∷ given_words decimal length)

-- the lines of the operations at these places
abbrev pub op_lines : List Op → List ℕ → List ℕ
op_lines ops places = joined (map op_line (ops_at ops places))

-- the line of the operation at the place, nothing where there is none
abbrev pub operation_line_at : List Op → ℕ → List ℕ
operation_line_at ops place = by (slice_get ops place)
  where
    by : Option Op → List ℕ
    by None = []
    by (Some a) = op_line a

-- the lines of the operations in their order, and that it is legal
abbrev pub ordered : List Op → List ℕ
ordered ops = op_lines ops (order ops) ++ codes "legal" ++ 10 ∷ []

-- what is written behind the output of the run
abbrev pub order_of : Reading (CheckedPlan × List (List ℕ)) → List ℕ → File → List ℕ
order_of (Ok read) name file = by (place_named read.0 name)
  where
    by : Option ℕ → List ℕ
    by None = []
    by (Some t) = ordered (operations_of read.0 read.1 t file)
order_of (Err fault) name file = []

-- the whole output
abbrev pub order_out : List ℕ → List ℕ → File → List ℕ
order_out input name file = out input ++ order_of (plan_of (lines_of input)) name file

-- a fault of the plan is the one that the lines of the input tell
abbrev pub IsPlanFault : List ℕ → OrderFault → Type 0
IsPlanFault input (Run fault) = IsPlanFaultOf input fault
IsPlanFault input Name = Unit {0}

-- the fault that the lines of the input tell, want of memory, or that the plan has no tenant of this name
abbrev pub IsAskedFault : List ℕ → List ℕ → AskedFault → Type 0
IsAskedFault name input (AskedPlan fault) = IsFaultOf (plan_of (lines_of input)) fault
IsAskedFault name input Nobody = IsOk (plan_of (lines_of input)) × (NamesTenant name input → ⊥)

-- how that is told of the order
abbrev pub of_asking : AskedFault → OrderFault
of_asking (AskedPlan fault) = Run (of_plan fault)
of_asking Nobody = Name
