-- A content that would outlast a loss of power, and how many bytes one has.
use Rattle.std.specs.Prelude.{◌≡◌, ◌≤◌, ℕ, List, Contains, Option, Some, None, ⊤}
use Rattle.gq_shelf.specs.Notes.{Noted}
use Rattle.gq_shelf.specs.Places.{long_at}
use Rattle.gq_shelf.specs.declared.place.Place.{Place}
use Rattle.gq_shelf.specs.declared.place.Place.TheVariants.{Fresh, Shelved}
use Rattle.gq_stock.specs.declared.chunk.Chunk.{Chunk}

-- The shelf made sure of what lies there. (One in memory is not on the shelf: it stands in the journal.)
abbrev pub PlaceIsSure : Place → Noted → Type 0
PlaceIsSure (Fresh bytes) noted = ⊤
PlaceIsSure (Shelved extent) noted = (bytes : List ℕ) × Contains noted.sure (extent, bytes)

-- the chunk that is there has so many bytes
abbrev pub IsLongOf : Option Chunk → (long : ℕ) → Type 0
IsLongOf None long = ⊥
IsLongOf (Some chunk) long = long_at chunk.place ≡ long

-- so it did of the chunk that is there
abbrev pub IsSureOf : Option Chunk → Noted → Type 0
IsSureOf None noted = ⊥
IsSureOf (Some chunk) noted = PlaceIsSure chunk.place noted

-- The content was put on the shelf in this life, where it lies there: the next sync makes sure of it.
abbrev pub PlaceIsPut : Place → Noted → Type 0
PlaceIsPut (Fresh bytes) noted = ⊤
PlaceIsPut (Shelved extent) noted = (bytes : List ℕ) × Contains noted.put (extent, bytes)

-- so was that of the chunk that is there
abbrev pub IsPutOf : Option Chunk → Noted → Type 0
IsPutOf None noted = ⊥
IsPutOf (Some chunk) noted = PlaceIsPut chunk.place noted

-- what was put by the one notes was put by the others, which tell as many refusals or more
pub record PutsStay (old new : Noted) : Type 0 where
  pub put : (place : Place) → PlaceIsPut place old → PlaceIsPut place new
  pub refused : old.refused ≤ new.refused
