-- What a node's process writes is determined by its setup, its number, the journal that it found and the lines that came, tenant by
-- tenant.
use Rattle.std.specs.Prelude.{◌≡◌, ℕ, List, [], ◌∷◌, ◌++◌}
use Rattle.gq_journal.specs.Batches.{Line}
use Rattle.gq_keeper.specs.Runs.{Did, Runs, lines_of, told_of}
use Rattle.gq_keeper.specs.Starting.{RecallsAll}
use Rattle.gq_service.specs.Gone.{facts_taken}
use Rattle.gq_node.specs.Local.{Local}
use Rattle.gq_node.specs.Resting.{recall_all, those_of, begun_local}
use Rattle.gq_node.specs.Sites.{Site, site_of}
use Rattle.gq_node.specs.Tables.{Tables}
use Rattle.gq_parts.specs.Laws.{TellsEach}
use Rattle.gq_parts.specs.Recalls.{RecallsTo, facts_said}
use Rattle.gq_parts.specs.Steps.{StepsTo}
use Rattle.gq_setup.specs.Setups.{Setup}
use Rattle.gq_setup.specs.Laws.{here_of}
use Rattle.gq_chunks.specs.Machines.{Chunks, ChunkSteps}
use Rattle.gq_chunks.specs.Takers.{line_taker, tells_chunk}
use Rattle.gq_pair.specs.Parting.{firsts}
use Rattle.gq_pair.specs.declared.pair.Taker.{Taker}
use Rattle.gq_pair.specs.declared.pair.Taker.TheVariants.{First, Second, Both as OfBoth}
use Rattle.gq_service.specs.Both.{both}
use Rattle.gq_service.specs.Serving.{IsNewFor, Serves, registers, volumes_in, first_of_journal}

-- the part of the tenant at place t of the node that started from the journal: what this tenant's facts alone make of it
abbrev pub started_part : Setup → (number : ℕ) → (journal : List ℕ) → ℕ → Local
started_part setup number journal t =
    let site : Site = site_of setup.plan (here_of number setup) t in
    recall_all site (begun_local site (volumes_in t setup.openings) (first_of_journal setup journal t)) (those_of t (facts_said setup.plan (facts_taken setup journal)))

-- what is shown behind `base` is what is written for the tenants, line by line, by their parts, from those of the start on
pub record TellsByParts (setup : Setup) (number : ℕ) (journal : List ℕ) (lines : List Line) (base shown : List ℕ) : Type 0 where
  pub dids : List Did
  pub took : lines_of dids ≡ lines
  pub told : shown ≡ base ++ told_of dids
  pub tells : TellsEach setup.plan (here_of number setup) (started_part setup number journal) dids

abbrev pub AllServedByParts : Type 0
AllServedByParts = (setup : Setup) (number : ℕ) (journal : List ℕ) (lines : List Line) (base synced shown : List ℕ) →
    Serves registers setup number journal lines base synced shown → TellsByParts setup number journal lines base shown

-- ---- of a node that keeps chunks as well

-- A step of both: what the step of the registers gave and told, and behind it what one of chunks did.
pub record Parted (did own : Did) : Type 0 where
  pub line : own.line ≡ did.line
  pub facts_behind : List Line
  pub told_behind : List ℕ
  pub facts : did.facts ≡ own.facts ++ facts_behind
  pub told : did.told ≡ own.told ++ told_behind
  pub before : Chunks
  pub after : Chunks
  pub chunks : ChunkSteps before did.line facts_behind told_behind after

-- What the step is of the registers' steps, by whose its line is: a line of registers is one of them, as it is; of a tick the first part is; and no line of chunks is any.
abbrev pub StepParts : Taker → (did : Did) → (rest : List Did → Type 0) → (own : List Did) → Type 0
StepParts First did rest own = (more : List Did) × (own ≡ did ∷ more) × rest more
StepParts Second did rest own = rest own
StepParts OfBoth did rest own = (part : Did) × (more : List Did) × (own ≡ part ∷ more) × Parted did part × rest more

-- the others are the registers' steps of all, one after another
abbrev pub AreRegisterSteps : (dids own : List Did) → Type 0
AreRegisterSteps [] own = own ≡ []
AreRegisterSteps (did ∷ dids) own = StepParts (line_taker did.line) did (λ more. AreRegisterSteps dids more) own

-- Of what is shown behind `base`, what the registers' steps tell is what is written for the tenants by their parts, as if no other line had come and the journal
-- had no other facts.
pub record TellsRegistersByParts (setup : Setup) (number : ℕ) (journal : List ℕ) (lines : List Line) (base shown : List ℕ) : Type 0 where
  pub dids : List Did
  pub took : lines_of dids ≡ lines
  pub told : shown ≡ base ++ told_of dids
  pub own : List Did
  pub parts : AreRegisterSteps dids own
  pub tells : TellsEach setup.plan (here_of number setup) (started_part setup number journal) own

abbrev pub RegistersServedByParts : {C : Type 0} → (has : C → Chunks) → Type 0
RegistersServedByParts has = (setup : Setup) (number : ℕ) (journal : List ℕ) (lines : List Line) (base synced shown : List ℕ) →
    Serves (both has) setup number journal lines base synced shown → TellsRegistersByParts setup number journal lines base shown

-- So they start and step as nodes of the law of all nodes do (`gq_parts::laws::all_nodes`): a node that was never started read the facts of registers in the journal, and then took these steps.
pub record RegistersRun (setup : Setup) (number : ℕ) (journal : List ℕ) (lines : List Line) (base shown : List ℕ) : Type 0 where
  pub dids : List Did
  pub took : lines_of dids ≡ lines
  pub told : shown ≡ base ++ told_of dids
  pub own : List Did
  pub parts : AreRegisterSteps dids own
  pub blank : Tables
  pub first : Tables
  pub last : Tables
  pub is_new : IsNewFor setup number (first_of_journal setup journal) blank
  pub reads : RecallsAll RecallsTo blank (firsts tells_chunk (facts_taken setup journal)) first
  pub runs : Runs StepsTo first own last

abbrev pub AllRegistersRun : {C : Type 0} → (has : C → Chunks) → Type 0
AllRegistersRun has = (setup : Setup) (number : ℕ) (journal : List ℕ) (lines : List Line) (base synced shown : List ℕ) →
    Serves (both has) setup number journal lines base synced shown → RegistersRun setup number journal lines base shown
