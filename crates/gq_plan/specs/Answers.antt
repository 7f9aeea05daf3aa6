-- What is answered of the files of plans. No definition says what a file has: it is some text.
use Rattle.std.specs.Prelude.{ℕ, List, Option, Some, None}
use Rattle.std.specs.Io.KnownBytes.{Appends}
use Rattle.gq_node_words.specs.declared.words.PlanRequest.{PlanRequest}
use Rattle.gq_setup.specs.Setups.{setup_of}
use Rattle.gq_setup.specs.declared.openings.SetupFault.TheVariants.{Memory as PlanMemory}
use Rattle.gq_plan.specs.PlanWords.{Tells}
use Rattle.gq_plan.specs.Following.{TellsNext}
use Rattle.gq_plan.specs.declared.asked.PlanAskedFault.{PlanAskedFault}
use Rattle.gq_plan.specs.declared.asked.PlanAskedFault.TheVariants.{Memory, Plan, Next}
use Rattle.gq_plan.specs.declared.told.FollowFault.TheVariants.{Old, New}

-- what a plan says was appended
abbrev pub TellsPlan : Option (List ℕ) → Option (List ℕ) → Type 0
TellsPlan old new = (text : List ℕ) × (told : List ℕ) × Tells (setup_of text) told × Appends old new told

-- a plan may follow an older one, and that was appended, with who leaves by it
abbrev pub TellsFollows : Option (List ℕ) → Option (List ℕ) → Type 0
TellsFollows old new =
    (before : List ℕ) × (text : List ℕ) × (told : List ℕ) × TellsNext (setup_of before) (setup_of text) told × Appends old new told

-- what is asked for
abbrev pub Answers : PlanRequest → Option (List ℕ) → Option (List ℕ) → Type 0
Answers asked old new = by asked.old
  where
    by : {A : Type 0} → Option A → Type 0
    by None = TellsPlan old new
    by (Some before) = TellsFollows old new

-- the status that the program ends with
abbrev pub status_of : PlanAskedFault → ℕ
status_of Memory = 3
status_of (Plan (PlanMemory _)) = 3
status_of (Next (Old (PlanMemory _))) = 3
status_of (Next (New (PlanMemory _))) = 3
status_of fault = 1
