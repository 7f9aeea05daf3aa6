-- What is told of a number, and when a call is refused.
use Rattle.std.specs.Prelude.{◌≡◌, ◌<◌, Option, Some, None, IsSome, ⊤}
use Rattle.gq_shelf.specs.Notes.{Noted, after_damage, after_refusal}
use Rattle.gq_shelf.specs.Places.{extent_in}
use Rattle.gq_shelf.specs.declared.extent.Extent.{Extent}
use Rattle.gq_shelf.specs.declared.fault.ShelfFault.{ShelfFault}
use Rattle.gq_shelf.specs.declared.fault.ShelfFault.TheVariants as Faults
use Rattle.gq_stock.specs.Held.{Held, content_of}
use Rattle.gq_stock.specs.declared.chunk.Chunk.{Chunk}
use Rattle.gq_stock.specs.declared.finding.Found.{Found}
use Rattle.gq_stock.specs.declared.finding.Found.TheVariants.{Nothing, Damaged, There}

-- What is found where this is there: its bytes if no read was wrong.
abbrev pub FoundAs : (is_clean : Type 0) → Option Held → Found → Type 0
FoundAs is_clean has Nothing = has ≡ None
FoundAs is_clean has Damaged = IsSome has
FoundAs is_clean has (There bytes) = is_clean → content_of has ≡ Some bytes

-- a read of the shelf found damage there, and nothing else was noted
abbrev pub FindsDamageAt : Option Extent → Noted → Noted → Type 0
FindsDamageAt None old new = ⊥
FindsDamageAt (Some extent) old new = new ≡ after_damage extent old

-- the read found damage where the chunk lies
abbrev pub FindsDamage : Option Chunk → Noted → Noted → Type 0
FindsDamage None old new = ⊥
FindsDamage (Some chunk) old new = FindsDamageAt (extent_in chunk.place) old new

-- the shelf had no space for a content, and nothing else was noted
abbrev pub LacksSpace : Noted → Noted → Type 0
LacksSpace old new = new ≡ after_refusal old

-- memory was wanting, or the shelf refused a call
abbrev pub IsRefused : ShelfFault → Noted → Noted → Type 0
IsRefused (Faults.Memory refused) old new = ⊤
IsRefused Faults.Read old new = old.refused < new.refused
IsRefused Faults.Write old new = old.refused < new.refused
IsRefused Faults.Full old new = old.refused < new.refused
IsRefused (Faults.Damaged segment) old new = old.refused < new.refused
