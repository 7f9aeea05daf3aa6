-- Each file of each tenant of an accepted input is linearizable.
use Rattle.std.specs.Prelude.{ℕ, List, map}
use Rattle.gq_tag.specs.Tag.{File}
use Rattle.gq_desk.specs.CheckedPlan.{CheckedPlan}
use Rattle.gq_laws.specs.declared.ops.Op.{Op}
use Rattle.gq_laws.specs.Operations.{Legal}
use Rattle.gq_laws.specs.Tenants.{tenant_operations}
use Rattle.gq_text.specs.Input.{event_of}
use Rattle.gq_script.specs.Alone.{Accepts}

-- the operations on a file of the tenant at place t, where these lines come after the plan
abbrev pub operations_of : CheckedPlan → List (List ℕ) → ℕ → File → List Op
operations_of plan lines t file = tenant_operations plan (map (event_of plan) lines) t file

-- some order of the operations is legal (Herlihy and Wing, Linearizability, ACM TOPLAS 12(3), 1990)
abbrev pub AreLinearizable : List Op → Type 0
AreLinearizable ops = (places : List ℕ) × Legal ops places

-- those on each file of each tenant are, whatever the lines of an accepted input
abbrev pub AllFilesLinearizable : Type 0
AllFilesLinearizable = (input : List ℕ) (plan : CheckedPlan) (lines : List (List ℕ)) (t : ℕ) (file : File) → Accepts input plan lines → AreLinearizable (operations_of plan lines t file)
