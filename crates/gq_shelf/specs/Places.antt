-- What a content is, whether it is in memory or lies on the shelf.
use Rattle.std.specs.Prelude.{◌≡◌, ℕ, ◌≤◌, List, length, Option, Some, None, ⊤}
use Rattle.gq_shelf.specs.Extents.{Describes, begins}
use Rattle.gq_shelf.specs.Notes.{Noted, after_put, after_read, after_failure}
use Rattle.gq_shelf.specs.declared.extent.Extent.{Extent}
use Rattle.gq_shelf.specs.declared.fault.ShelfFault.{ShelfFault}
use Rattle.gq_shelf.specs.declared.fault.ShelfFault.TheVariants.{Memory}
use Rattle.gq_shelf.specs.declared.place.Place.{Place}
use Rattle.gq_shelf.specs.declared.place.Place.TheVariants.{Fresh, Shelved}

-- its bytes, where this is what lies on the shelf
abbrev pub content_at : (Extent → List ℕ) → Place → List ℕ
content_at written (Fresh bytes) = bytes
content_at written (Shelved extent) = written extent

-- how many bytes it has
abbrev pub long_at : Place → ℕ
long_at (Fresh bytes) = length bytes
long_at (Shelved extent) = extent.len

-- The place is where the content was put: on the shelf, behind its end.
abbrev pub PutBehind : ℕ → List ℕ → Noted → Noted → Place → Type 0
PutBehind end content old new (Fresh bytes) = ⊥
PutBehind end content old new (Shelved extent) = (end ≤ begins extent) × (new ≡ after_put extent content old)

-- what a read says of the notes: one of a content in memory nothing, one of another that it was read there
abbrev pub ReadAt : Place → List ℕ → Noted → Noted → Type 0
ReadAt (Fresh bytes) found old new = new ≡ old
ReadAt (Shelved extent) found old new = new ≡ after_read extent found old

-- memory was wanting
abbrev pub IsMemory : ShelfFault → Type 0
IsMemory (Memory refused) = ⊤
IsMemory _ = ⊥

-- what a read that failed says of the notes: one of a content in memory wanted memory, one of another failed there
abbrev pub ReadFailed : Place → ShelfFault → Noted → Noted → Type 0
ReadFailed (Fresh bytes) fault old new = IsMemory fault × (new ≡ old)
ReadFailed (Shelved extent) fault old new = new ≡ after_failure fault extent old

-- where it lies
abbrev pub extent_in : Place → Option Extent
extent_in (Fresh bytes) = None
extent_in (Shelved extent) = Some extent

-- the bytes have the number and the sum of the content that lies there; one in memory has none
abbrev pub DescribesAt : Option Extent → List ℕ → Type 0
DescribesAt None bytes = ⊥
DescribesAt (Some extent) bytes = Describes extent bytes

-- they were noted as read there
abbrev pub NotedAt : Option Extent → List ℕ → Noted → Noted → Type 0
NotedAt None bytes old new = ⊥
NotedAt (Some extent) bytes old new = new ≡ after_read extent bytes old
