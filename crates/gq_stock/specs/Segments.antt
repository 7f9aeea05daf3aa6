-- In which segment of the shelf chunks lie.
use Rattle.std.specs.Prelude.{◌≡◌, ℕ, Bool, true, false, ◌==◌, Option, Some, None}
use Rattle.gq_shelf.specs.declared.place.Place.{Place}
use Rattle.gq_shelf.specs.declared.place.Place.TheVariants.{Fresh, Shelved}
use Rattle.gq_ledger.specs.Steps.{Book}
use Rattle.gq_stock.specs.declared.chunk.Chunk.{Chunk}

-- whether a content lies in the segment
abbrev pub lies_in : (segment : ℕ) → Place → Bool
lies_in segment (Fresh bytes) = false
lies_in segment (Shelved extent) = extent.segment == segment

-- whether that of the chunk does, if there is one
abbrev pub has_in : (segment : ℕ) → Option Chunk → Bool
has_in segment None = false
has_in segment (Some chunk) = lies_in segment chunk.place

-- none of these chunks does
abbrev pub NoneIn : (segment : ℕ) → Book Chunk → Type 0
NoneIn segment b = (n : ℕ) → has_in segment (b.at n) ≡ false

-- one of them does
abbrev pub SomeIn : (segment : ℕ) → Book Chunk → Type 0
SomeIn segment b = (n : ℕ) × (has_in segment (b.at n) ≡ true)
