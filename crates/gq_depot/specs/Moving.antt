-- What a server makes of a chunk that is moved: it lies elsewhere, and nothing that is told changes.
use Rattle.std.specs.Prelude.{◌≡◌, ◌≤◌, ℕ, List, length, Option, Some, None, option_map, slice_get, ⊤}
use Rattle.gq_shelf.specs.Notes.{Noted, IsClean}
use Rattle.gq_shelf.specs.Places.{content_at, long_at}
use Rattle.gq_shelf.specs.declared.extent.Extent.{Extent}
use Rattle.gq_ledger.specs.Ledgers.{book_of}
use Rattle.gq_stock.specs.Held.{Held}
use Rattle.gq_stock.specs.Moving.{IsAt}
use Rattle.gq_stock.specs.Stocks.{used_in}
use Rattle.gq_stock.specs.Sure.{PlaceIsPut}
use Rattle.gq_stock.specs.declared.chunk.Chunk.{Chunk}
use Rattle.gq_depot.specs.Answers.{In, BySession}
use Rattle.gq_depot.specs.Depots.{Placed, standing_of, LeadsTo, ReadsFact, in_memory}
use Rattle.gq_depot.specs.declared.depot.Depot.{Depot}
use Rattle.gq_depot.specs.declared.fact.ChunkFact.{ChunkFact}
use Rattle.gq_depot.specs.declared.fact.ChunkFact.TheVariants.{Put}
use Rattle.gq_depot.specs.declared.limits.TheConstants.{MOST_CHUNK}

-- the fact, if there is one, says where the chunk of the number stands then: behind this end, the same, told or not as it was
abbrev pub MovedAt : (is_clean : Type 0) → (Extent → List ℕ) → (end : ℕ) → Depot → (place s n : ℕ) → Option ChunkFact → Type 0
MovedAt is_clean written end depot place s n None = ⊤
MovedAt is_clean written end depot place s n (Some (Put s' n' is_sure at)) = (s' ≡ s) × (n' ≡ n) × In depot.stock.sessions.items place (λ session. IsAt is_clean written end ((book_of session.chunks).at n) is_sure at)
MovedAt is_clean written end depot place s n (Some _) = ⊥

abbrev pub MoveGives : (is_clean : Type 0) → (Extent → List ℕ) → (end : ℕ) → Depot → (s n : ℕ) → Option ChunkFact → Type 0
MoveGives is_clean written end depot s n fact = BySession depot s (fact ≡ None) (λ place. MovedAt is_clean written end depot place s n fact)

-- what the fact names on the shelf was put there in this life: the next sync makes sure of it
abbrev pub FactIsPut : Option ChunkFact → Noted → Type 0
FactIsPut (Some (Put s n is_sure place)) noted = PlaceIsPut place noted
FactIsPut _ noted = ⊤

-- there is a chunk, and it is no longer than chunks are
abbrev pub FitsThere : Option Chunk → Type 0
FitsThere None = ⊥
FitsThere (Some chunk) = long_at chunk.place ≤ MOST_CHUNK

-- The chunk of the session's number was to be moved behind this end, at a server that had the one depot and has the other, and this fact came of it, where this is noted of the shelf then.
pub record MoveStep (noted : Noted) (end : ℕ) (old : Depot) (s n : ℕ) (fact : Option ChunkFact) (new : Depot) : Type 0 where
  pub gives : (written : Extent → List ℕ) → MoveGives (IsClean written noted) written end old s n fact
  pub leads : LeadsTo old fact new
  pub put : FactIsPut fact noted
  pub reads : ReadsFact (length old.stock.sessions.items) fact
  pub memory : in_memory new ≤ in_memory old
  pub used : used_in new.stock.sessions.items ≡ used_in old.stock.sessions.items

-- it is so of the tenant at this place
abbrev pub MovesOwn : Noted → (end : ℕ) → List Depot → (tenant s n : ℕ) → Option ChunkFact → List Depot → Type 0
MovesOwn noted end olds tenant s n fact news = (old new : Depot) → slice_get olds tenant ≡ Some old → slice_get news tenant ≡ Some new → MoveStep noted end old s n fact new

-- ---- what is told

-- what is told of a chunk: its bytes, and whether it is told
abbrev pub told_of : (Extent → List ℕ) → Placed → Held
told_of written placed = record { bytes = content_at written placed.place; is_sure = placed.is_sure }

-- Of each number the same is there, as long, and told or not as it was. So are the floors, what was forgotten, whether chunks are lacked, and the room.
pub record TellsSame (is_clean : Type 0) (written : Extent → List ℕ) (old new : Depot) : Type 0 where
  pub at : is_clean → (k n : ℕ) → option_map (told_of written) (((standing_of new).books k).at n) ≡ option_map (told_of written) (((standing_of old).books k).at n)
  pub long : (k n : ℕ) → option_map (λ (it : Placed). long_at it.place) (((standing_of new).books k).at n) ≡ option_map (λ (it : Placed). long_at it.place) (((standing_of old).books k).at n)
  pub sure : (k n : ℕ) → option_map (λ (it : Placed). it.is_sure) (((standing_of new).books k).at n) ≡ option_map (λ (it : Placed). it.is_sure) (((standing_of old).books k).at n)
  pub floor : (k : ℕ) → ((standing_of new).books k).floor ≡ ((standing_of old).books k).floor
  pub gone : (k n : ℕ) → (standing_of new).gone k n ≡ (standing_of old).gone k n
  pub lacks : new.lacks ≡ old.lacks
  pub used : used_in new.stock.sessions.items ≡ used_in old.stock.sessions.items
  pub allowed : new.stock.allowed ≡ old.stock.allowed

abbrev pub MovesTellSame : Type 0
MovesTellSame = (noted : Noted) (end : ℕ) (old new : Depot) (s n : ℕ) (fact : Option ChunkFact) → MoveStep noted end old s n fact new → (written : Extent → List ℕ) → TellsSame (IsClean written noted) written old new
