-- What stands elsewhere, and is the same.
use Rattle.std.specs.Prelude.{◌≡◌, ◌≤◌, ◌⊎◌, ℕ, List, ◌∷◌, Bool, true, false, Option, Some, None, ⊤}
use Rattle.gq_shelf.specs.Extents.{begins}
use Rattle.gq_shelf.specs.Notes.{Noted}
use Rattle.gq_shelf.specs.Places.{content_at, extent_in, long_at, ReadAt, DescribesAt}
use Rattle.gq_shelf.specs.declared.extent.Extent.{Extent}
use Rattle.gq_shelf.specs.declared.place.Place.{Place}
use Rattle.gq_shelf.specs.declared.place.Place.TheVariants.{Fresh, Shelved}
use Rattle.gq_ledger.specs.Steps.{Book}
use Rattle.gq_stock.specs.Finding.{FindsDamageAt}
use Rattle.gq_stock.specs.Held.{Held}
use Rattle.gq_stock.specs.declared.chunk.Chunk.{Chunk}
use Rattle.gq_stock.specs.declared.moving.Source.{Source}
use Rattle.gq_stock.specs.declared.moving.Source.TheVariants.{Shelf, Peer}

-- the content lies on the shelf, behind this end
abbrev pub LiesBehind : ℕ → Place → Type 0
LiesBehind end (Fresh bytes) = ⊥
LiesBehind end (Shelved extent) = end ≤ begins extent

-- so does that of the chunk that is there
abbrev pub IsBehind : ℕ → Option Chunk → Type 0
IsBehind end None = ⊥
IsBehind end (Some chunk) = LiesBehind end chunk.place

-- a read told what is there
abbrev pub IsReadAt : Place → Noted → Noted → Type 0
IsReadAt place old new = (found : List ℕ) × ReadAt place found old new

-- Why a content is not put anew. One that is to be moved is damaged. One that is to be mended can be read, or is damaged and the bytes that were given are not of its number and sum.
abbrev pub IsLeft : Source → Place → Noted → Noted → Type 0
IsLeft Shelf place old new = FindsDamageAt (extent_in place) old new
IsLeft (Peer bytes) place old new = IsReadAt place old new ⊎ (FindsDamageAt (extent_in place) old new × (DescribesAt (extent_in place) bytes → ⊥))

-- of the number, if a chunk is there
abbrev pub NoneIsRead : Source → Option Chunk → Noted → Noted → Type 0
NoneIsRead source None old new = ⊤
NoneIsRead source (Some chunk) old new = IsLeft source chunk.place old new

-- one read since then found damage there, and no other did
abbrev pub DamagedSince : Option Extent → Noted → Noted → Type 0
DamagedSince None old new = ⊥
DamagedSince (Some extent) old new = new.damaged ≡ extent ∷ old.damaged

-- Only what can't be read is mended, and only by bytes of its number and sum.
abbrev pub IsMendedBy : Source → Place → Noted → Noted → Type 0
IsMendedBy Shelf place old new = ⊤
IsMendedBy (Peer bytes) place old new = DamagedSince (extent_in place) old new × DescribesAt (extent_in place) bytes

-- so it is of the chunk that was there
abbrev pub MendsAs : Source → Option Chunk → Noted → Noted → Type 0
MendsAs source None old new = ⊥
MendsAs source (Some chunk) old new = IsMendedBy source chunk.place old new

-- Whether a read found damage where the chunk lies; else it was read, or none is there.
abbrev pub CheckedAs : Option Chunk → (is_damaged : Bool) → Noted → Noted → Type 0
CheckedAs None is_damaged old new = is_damaged ≡ false
CheckedAs (Some chunk) true old new = FindsDamageAt (extent_in chunk.place) old new
CheckedAs (Some chunk) false old new = IsReadAt chunk.place old new

-- the same is there under each number, and the floor is the same
pub record MovedAs (old new : Book Held) : Type 0 where
  pub at : (n : ℕ) → new.at n ≡ old.at n
  pub floor : new.floor ≡ old.floor

-- The chunk that was there stands at this place now, told or not as it was: on the shelf, behind this end. It has as many bytes, and the same where no read was wrong.
abbrev pub IsAt : (is_clean : Type 0) → (Extent → List ℕ) → (end : ℕ) → Option Chunk → (is_sure : Bool) → Place → Type 0
IsAt is_clean written end None is_sure place = ⊥
IsAt is_clean written end (Some was) is_sure place = (is_sure ≡ was.is_sure) × (long_at place ≡ long_at was.place) × LiesBehind end place × (is_clean → content_at written place ≡ content_at written was.place)

-- so does the chunk that is there now
abbrev pub IsMoved : (is_clean : Type 0) → (Extent → List ℕ) → (end : ℕ) → (was is : Option Chunk) → Type 0
IsMoved is_clean written end was None = ⊥
IsMoved is_clean written end was (Some is) = IsAt is_clean written end was is.is_sure is.place
