-- What is found of a chunk that is read only to see whether it can be.
use Rattle.std.specs.Prelude.{◌≡◌, ℕ, Bool, false, List, Some, slice_get}
use Rattle.gq_shelf.specs.Notes.{Noted}
use Rattle.gq_ledger.specs.Ledgers.{book_of}
use Rattle.gq_stock.specs.Moving.{CheckedAs}
use Rattle.gq_depot.specs.Answers.{In, BySession}
use Rattle.gq_depot.specs.declared.depot.Depot.{Depot}

-- Whether a read found damage where the chunk of the session's number lies; else it was read, or none is there.
abbrev pub Checks : Depot → (s n : ℕ) → (is_damaged : Bool) → Noted → Noted → Type 0
Checks depot s n is_damaged old new = BySession depot s (is_damaged ≡ false) (λ place. In depot.stock.sessions.items place (λ session. CheckedAs ((book_of session.chunks).at n) is_damaged old new))

-- so it is of the tenant at this place
abbrev pub ChecksOwn : List Depot → (tenant s n : ℕ) → (is_damaged : Bool) → Noted → Noted → Type 0
ChecksOwn depots tenant s n is_damaged old new = (depot : Depot) → slice_get depots tenant ≡ Some depot → Checks depot s n is_damaged old new
