-- What holds of any requests of any tenants, of what peers give, and of chunks that are moved.
use Rattle.std.specs.Prelude.{◌≡◌, ℕ, Bool, true, false, ◌==◌, List, [], ◌∷◌, length, Option, Some, slice_get}
use Rattle.gq_shelf.specs.Notes.{Noted}
use Rattle.gq_depot.specs.Depots.{Standing, standing_of, after_fact, IsSame, StaysWithin}
use Rattle.gq_depot.specs.Moving.{MoveStep}
use Rattle.gq_depot.specs.Tenants.{Step, FillStep, ApartFrom}
use Rattle.gq_depot.specs.declared.answer.Answered.{Answered}
use Rattle.gq_depot.specs.declared.depot.Depot.{Depot}
use Rattle.gq_depot.specs.declared.fact.ChunkFact.{ChunkFact}
use Rattle.gq_depot.specs.declared.filling.Filling.{Filling}
use Rattle.gq_depot.specs.declared.request.ChunkRequest.{ChunkRequest}

-- it was asked this, and this came of it; or this was done of what a peer gave, and this fact came of it; or the chunk of a session's number was moved behind this end, and this fact came of it
pub data Deed : Type 0 where
  Asked : ChunkRequest → Answered → Deed
  Filled : Filling → Option ChunkFact → Deed
  Moved : (s n end : ℕ) → Option ChunkFact → Deed

-- for whom it was done, and what was noted of the shelf then
pub record Did : Type 0 where
  pub tenant : ℕ
  pub deed : Deed
  pub noted : Noted

-- what is kept of it
abbrev pub fact_of : Deed → Option ChunkFact
fact_of (Asked request answered) = answered.fact
fact_of (Filled filling fact) = fact
fact_of (Moved s n end fact) = fact

-- what the deed makes of the tenant's depot
abbrev pub Does : Noted → (losses : ℕ) → (old : Depot) → Deed → (new : Depot) → Type 0
Does noted losses old (Asked request answered) new = Step noted losses old request answered new
Does noted losses old (Filled filling fact) new = FillStep noted old filling fact new
Does noted losses old (Moved s n end fact) new = MoveStep noted end old s n fact new

abbrev pub DoesOwn : Noted → (losses : ℕ) → List Depot → (tenant : ℕ) → Deed → List Depot → Type 0
DoesOwn noted losses olds tenant deed news = (old new : Depot) → slice_get olds tenant ≡ Some old → slice_get news tenant ≡ Some new → Does noted losses old deed new

-- ---- a run of all tenants

-- the tenant's depot goes on by what is done for it, and all others stay
abbrev pub Takes : (losses : ℕ) → List Depot → Did → List Depot → Type 0
Takes losses olds did news = DoesOwn did.noted losses olds did.tenant did.deed news × ApartFrom did.tenant olds news × (length news ≡ length olds)

-- so do all of them, the newest first
abbrev pub Ran : (losses : ℕ) → List Depot → List Did → List Depot → Type 0
Ran losses firsts [] nows = nows ≡ firsts
Ran losses firsts (did ∷ before) nows = (mid : List Depot) × Ran losses firsts before mid × Takes losses mid did nows

-- ---- a run of one tenant

abbrev pub RanAlone : (losses : ℕ) → Depot → List Did → Depot → Type 0
RanAlone losses first [] now = now ≡ first
RanAlone losses first (did ∷ before) now = (mid : Depot) × RanAlone losses first before mid × Does did.noted losses mid did.deed now

abbrev pub own_with : (is_its : Bool) → Did → List Did → List Did
own_with true did dids = did ∷ dids
own_with false did dids = dids

-- what was done for the tenant at this place
abbrev pub own : (tenant : ℕ) → List Did → List Did
own tenant [] = []
own tenant (did ∷ before) = own_with (did.tenant == tenant) did (own tenant before)

-- each tenant's part of a run is a run of that tenant alone
abbrev pub Apart : Type 0
Apart = (losses tenant : ℕ) (firsts nows : List Depot) (dids : List Did) (first now : Depot) → slice_get firsts tenant ≡ Some first → slice_get nows tenant ≡ Some now → Ran losses firsts dids nows → RanAlone losses first (own tenant dids) now

-- ---- facts

-- what the facts of all make of what there was, the newest first
abbrev pub after_all : List Did → Standing → Standing
after_all [] it = it
after_all (did ∷ before) it = after_fact (fact_of did.deed) (after_all before it)

abbrev pub FactsRemake : Type 0
FactsRemake = (losses : ℕ) (first now : Depot) (dids : List Did) → RanAlone losses first dids now → IsSame (standing_of now) (after_all dids (standing_of first))

-- ---- memory

-- after any run no more bytes of contents are in memory than so many, or than there were
abbrev pub MemoryIsBounded : Type 0
MemoryIsBounded = (losses : ℕ) (first now : Depot) (dids : List Did) → RanAlone losses first dids now → StaysWithin first now
