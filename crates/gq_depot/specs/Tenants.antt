-- What a request of a tenant does.
use Rattle.std.specs.Prelude.{◌≡◌, ◌≢◌, ℕ, Bool, List, Option, Some, length, slice_get}
use Rattle.gq_shelf.specs.Notes.{Noted, IsClean}
use Rattle.gq_shelf.specs.declared.extent.Extent.{Extent}
use Rattle.gq_depot.specs.Answers.{Tells, Gives, DamageIs}
use Rattle.gq_depot.specs.Depots.{LeadsTo, FactIsSure, ReadsFact, StaysWithin, reads_fact}
use Rattle.gq_depot.specs.declared.answer.Answered.{Answered}
use Rattle.gq_depot.specs.declared.answer.ChunkAnswer.{ChunkAnswer}
use Rattle.gq_depot.specs.declared.depot.Depot.{Depot}
use Rattle.gq_depot.specs.declared.fact.ChunkFact.{ChunkFact}
use Rattle.gq_depot.specs.Filling.{Fills}
use Rattle.gq_depot.specs.declared.filling.Filling.{Filling}
use Rattle.gq_depot.specs.declared.request.ChunkRequest.{ChunkRequest}

-- The tenant, of whom the server had the one depot and has the other, asked this, and this came of it, where this is noted of the shelf then. No other tenant plays
-- a part.
pub record Step (noted : Noted) (losses : ℕ) (old : Depot) (request : ChunkRequest) (answered : Answered) (new : Depot) : Type 0 where
  pub tells : (written : Extent → List ℕ) → Tells (IsClean written noted) written old losses request answered.answer new
  pub gives : (written : Extent → List ℕ) → Gives (IsClean written noted) written old request answered.answer answered.fact
  pub leads : LeadsTo old answered.fact new
  pub sure : FactIsSure answered.fact noted
  pub reads : ReadsFact (length old.stock.sessions.items) answered.fact
  pub memory : StaysWithin old new

-- it is so of the tenant at this place
abbrev pub TakesOwn : Noted → (losses : ℕ) → List Depot → (tenant : ℕ) → ChunkRequest → Answered → List Depot → Type 0
TakesOwn noted losses olds tenant request answered news = (old new : Depot) → slice_get olds tenant ≡ Some old → slice_get news tenant ≡ Some new → Step noted losses old request answered new

-- This was done for the tenant, of whom the server had the one depot and has the other, and this fact came of it. No other tenant plays a part.
pub record FillStep (noted : Noted) (old : Depot) (filling : Filling) (fact : Option ChunkFact) (new : Depot) : Type 0 where
  pub fills : (written : Extent → List ℕ) → Fills (IsClean written noted) written old filling fact
  pub leads : LeadsTo old fact new
  pub sure : FactIsSure fact noted
  pub reads : ReadsFact (length old.stock.sessions.items) fact
  pub memory : StaysWithin old new

-- it is so of the tenant at this place
abbrev pub FillsOwn : Noted → List Depot → (tenant : ℕ) → Filling → Option ChunkFact → List Depot → Type 0
FillsOwn noted olds tenant filling fact news = (old new : Depot) → slice_get olds tenant ≡ Some old → slice_get news tenant ≡ Some new → FillStep noted old filling fact new

-- what this tenant has is what the fact, if there is one, makes of what it had
abbrev pub LeadsOwn : List Depot → (tenant : ℕ) → Option ChunkFact → List Depot → Type 0
LeadsOwn olds tenant fact news = (old new : Depot) → slice_get olds tenant ≡ Some old → slice_get news tenant ≡ Some new → LeadsTo old fact new

-- whether its depot reads the fact
abbrev pub ReadsOwn : List Depot → (tenant : ℕ) → ChunkFact → Bool → Type 0
ReadsOwn depots tenant fact reads = (depot : Depot) → slice_get depots tenant ≡ Some depot → reads ≡ reads_fact (length depot.stock.sessions.items) fact

-- all others have what they had
abbrev pub ApartFrom : (tenant : ℕ) → List Depot → List Depot → Type 0
ApartFrom tenant olds news = (other : ℕ) → other ≢ tenant → slice_get news other ≡ slice_get olds other

-- what this tenant is told as damaged a read found so, and a want of space the shelf told
abbrev pub DamageOf : List Depot → (tenant : ℕ) → Noted → Noted → ChunkAnswer → Type 0
DamageOf depots tenant old new answer = (depot : Depot) → slice_get depots tenant ≡ Some depot → DamageIs depot old new answer
