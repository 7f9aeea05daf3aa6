-- What a shelf is taken to hold, by what was put on it, read of it and made sure of.
use Rattle.std.specs.Prelude.{◌≡◌, ℕ, ◌+◌, List, [], ◌∷◌, slice_index, ◌==◌, if◌then◌else◌, All}
use Rattle.gq_shelf.specs.declared.extent.Extent.{Extent}
use Rattle.gq_shelf.specs.declared.fault.ShelfFault.{ShelfFault}
use Rattle.gq_shelf.specs.declared.fault.ShelfFault.TheVariants.{Memory, Read, Write, Full, Damaged}

-- a content was put there, or was read there
abbrev pub Note : Type 0
Note = Extent × List ℕ

-- What was put or read in this life; what was put alone, and what of this was made sure of; where a read found damage; and how many other calls
-- memory or the system refused. The newest first.
pub record Noted : Type 0 where
  pub all : List Note
  pub put : List Note
  pub sure : List Note
  pub damaged : List Extent
  pub refused : ℕ

abbrev pub none_noted : Noted
none_noted = record { all = []; put = []; sure = []; damaged = []; refused = 0 }

abbrev pub after_put : Extent → List ℕ → Noted → Noted
after_put extent bytes noted =
    record { all = (extent, bytes) ∷ noted.all; put = (extent, bytes) ∷ noted.put; sure = noted.sure; damaged = noted.damaged; refused = noted.refused }

abbrev pub after_read : Extent → List ℕ → Noted → Noted
after_read extent bytes noted =
    record { all = (extent, bytes) ∷ noted.all; put = noted.put; sure = noted.sure; damaged = noted.damaged; refused = noted.refused }

abbrev pub after_sync : Noted → Noted
after_sync noted = record { all = noted.all; put = noted.put; sure = noted.put; damaged = noted.damaged; refused = noted.refused }

abbrev pub after_damage : Extent → Noted → Noted
after_damage extent noted = record { all = noted.all; put = noted.put; sure = noted.sure; damaged = extent ∷ noted.damaged; refused = noted.refused }

abbrev pub after_refusal : Noted → Noted
after_refusal noted = record { all = noted.all; put = noted.put; sure = noted.sure; damaged = noted.damaged; refused = noted.refused + 1 }

-- a read that is told damage found it there; all else was refused to it
abbrev pub after_failure : ShelfFault → Extent → Noted → Noted
after_failure (Damaged segment) extent noted = after_damage extent noted
after_failure (Memory refused) extent noted = after_refusal noted
after_failure Read extent noted = after_refusal noted
after_failure Write extent noted = after_refusal noted
after_failure Full extent noted = after_refusal noted

-- No read was wrong: each content that was put or read is what this function says. For the one that says what was put, it says just this. What was had from
-- elsewhere, with the number of bytes and the sum of a content, counts as read there.
abbrev pub IsClean : (Extent → List ℕ) → Noted → Type 0
IsClean written noted = All (λ note. written note.0 ≡ note.1) noted.all

-- What was noted since changes nothing of what was noted before: where no read was wrong now, none was then.
abbrev pub GoesOn : Noted → Noted → Type 0
GoesOn old new = (written : Extent → List ℕ) → IsClean written new → IsClean written old

abbrev pub extent_of : List ℕ → Extent
extent_of numbers = record { segment = slice_index numbers 1; at = slice_index numbers 2; len = slice_index numbers 3; sum = slice_index numbers 4 }

-- what is noted: which note it is, and the numbers of an extent
abbrev pub noted_by : List ℕ → List ℕ → Noted → Noted
noted_by numbers bytes noted =
    if slice_index numbers 0 == 0 then after_put (extent_of numbers) bytes noted
    else if slice_index numbers 0 == 1 then after_read (extent_of numbers) bytes noted
    else if slice_index numbers 0 == 2 then after_sync noted
    else if slice_index numbers 0 == 3 then after_damage (extent_of numbers) noted
    else after_refusal noted
