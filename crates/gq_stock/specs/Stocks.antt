-- The chunks of a tenant's sessions.
use Rattle.std.specs.Prelude.{◌≡◌, ℕ, Bool, true, List, Some, None, slice_get}
use Rattle.std.specs.List.{sum_by}
use Rattle.gq_shelf.specs.declared.extent.Extent.{Extent}
use Rattle.gq_ledger.specs.Ledgers.{book_of, all_bytes, all_fresh}
use Rattle.gq_shelf.specs.Notes.{Noted}
use Rattle.gq_stock.specs.Finding.{FindsDamage}
use Rattle.gq_stock.specs.Held.{contents}
use Rattle.gq_stock.specs.Moving.{IsMoved}
use Rattle.gq_stock.specs.Sure.{IsSureOf, IsLongOf, IsPutOf}
use Rattle.gq_stock.specs.Keeping.{KeptAs, ChangesOnly}
use Rattle.gq_stock.specs.declared.session.Session.{Session}
use Rattle.gq_stock.specs.declared.keeping.Keeping.{Keeping}

-- how many bytes all chunks are charged
abbrev pub used_in : List Session → ℕ
used_in sessions = sum_by (λ session. all_bytes session.chunks) sessions

-- how many bytes of all chunks are in memory
abbrev pub fresh_in : List Session → ℕ
fresh_in sessions = sum_by (λ session. all_fresh session.chunks) sessions

-- The session at this place was asked to keep a content.
abbrev pub KeptIn : (Extent → List ℕ) → List Session → (place n : ℕ) → List ℕ → Bool → (free : ℕ) → Keeping → List Session → Type 0
KeptIn written olds place n bytes is_sure free told news = (old new : Session) → slice_get olds place ≡ Some old → slice_get news place ≡ Some new → KeptAs (contents written (book_of old.chunks)) n bytes is_sure free told (contents written (book_of new.chunks))

-- The session at this place has the content under the number, and tells it.
abbrev pub GivenIn : (Extent → List ℕ) → List Session → (place n : ℕ) → List ℕ → Type 0
GivenIn written sessions place n bytes = (session : Session) → slice_get sessions place ≡ Some session → (contents written (book_of session.chunks)).at n ≡ Some (record { bytes = bytes; is_sure = true })

-- The session at this place has what it had.
abbrev pub StaysIn : List Session → (place : ℕ) → List Session → Type 0
StaysIn olds place news = (old new : Session) → slice_get olds place ≡ Some old → slice_get news place ≡ Some new → book_of new.chunks ≡ book_of old.chunks

-- What it has under the number would outlast a loss of power.
abbrev pub SureIn : List Session → (place n : ℕ) → Noted → Type 0
SureIn sessions place n noted = (session : Session) → slice_get sessions place ≡ Some session → IsSureOf ((book_of session.chunks).at n) noted

-- What it has under the number has so many bytes.
abbrev pub LongIn : List Session → (place n long : ℕ) → Type 0
LongIn sessions place n long = (session : Session) → slice_get sessions place ≡ Some session → IsLongOf ((book_of session.chunks).at n) long

-- A session that has nothing, and its floor is at 0.
pub record IsEmpty (session : Session) : Type 0 where
  pub at : (n : ℕ) → (book_of session.chunks).at n ≡ None
  pub floor : (book_of session.chunks).floor ≡ 0

-- The session at this place has what it had, but for what is under the number.
abbrev pub ChangesIn : List Session → (place n : ℕ) → List Session → Type 0
ChangesIn olds place n news = (old new : Session) → slice_get olds place ≡ Some old → slice_get news place ≡ Some new → ChangesOnly (book_of old.chunks) n (book_of new.chunks)

-- A read found damage where its chunk under the number lies.
abbrev pub DamagedIn : List Session → (place n : ℕ) → Noted → Noted → Type 0
DamagedIn sessions place n old new = (session : Session) → slice_get sessions place ≡ Some session → FindsDamage ((book_of session.chunks).at n) old new

-- What the session at this place has under the number stands elsewhere.
abbrev pub MovedIn : (is_clean : Type 0) → (Extent → List ℕ) → (end : ℕ) → List Session → (place n : ℕ) → List Session → Type 0
MovedIn is_clean written end olds place n news = (old new : Session) → slice_get olds place ≡ Some old → slice_get news place ≡ Some new → IsMoved is_clean written end ((book_of old.chunks).at n) ((book_of new.chunks).at n)

-- What it has under the number was put on the shelf in this life.
abbrev pub PutIn : List Session → (place n : ℕ) → Noted → Type 0
PutIn sessions place n noted = (session : Session) → slice_get sessions place ≡ Some session → IsPutOf ((book_of session.chunks).at n) noted
