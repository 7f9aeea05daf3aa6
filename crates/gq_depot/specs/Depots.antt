-- What a server has of a tenant's chunks, and what a fact makes of it.
use Rattle.std.specs.Prelude.{◌≡◌, ◌≤◌, ℕ, ◌-◌, Bool, true, false, ◌==◌, ◌&&◌, ◌||◌, nat_le, List, [], ◌∷◌, length, max, Option, Some, None, option_map, slice_get, if◌then◌else◌, ⊤}
use Rattle.gq_shelf.specs.Notes.{Noted}
use Rattle.gq_shelf.specs.Places.{long_at}
use Rattle.gq_shelf.specs.declared.place.Place.{Place}
use Rattle.gq_ledger.specs.Ledgers.{book_of}
use Rattle.gq_ledger.specs.Steps.{Book, with_at}
use Rattle.std.specs.List.{list_any}
use Rattle.gq_stock.specs.Forgetting.{is_in, is_in_any}
use Rattle.gq_stock.specs.Sure.{PlaceIsSure}
use Rattle.gq_stock.specs.Stocks.{fresh_in}
use Rattle.gq_stock.specs.declared.chunk.Chunk.{Chunk}
use Rattle.gq_stock.specs.declared.limits.TheConstants.{MOST_FRESH_BYTES}
use Rattle.gq_stock.specs.declared.run.Run.{Run}
use Rattle.gq_stock.specs.declared.session.Session.{Session}
use Rattle.gq_depot.specs.declared.limits.TheConstants.{MOST_CHUNK}
use Rattle.gq_depot.specs.declared.depot.Depot.{Depot}
use Rattle.gq_depot.specs.declared.gone.Gone.{Gone}
use Rattle.gq_depot.specs.declared.fact.ChunkFact.{ChunkFact}
use Rattle.gq_depot.specs.declared.fact.ChunkFact.TheVariants.{Put, Forgot, Filled}

-- where a chunk is, and whether it is told
pub record Placed : Type 0 where
  pub place : Place
  pub is_sure : Bool

-- the chunks of a tenant's sessions, by the places of the sessions from 0, whether the server lacks some, and which numbers were forgotten since it does
pub record Standing : Type 0 where
  pub books : ℕ → Book Placed
  pub gone : (place number : ℕ) → Bool
  pub lacks : Bool

-- ---- what there is

abbrev pub placed_of : Chunk → Placed
placed_of chunk = record { place = chunk.place; is_sure = chunk.is_sure }

abbrev pub placed : Book Chunk → Book Placed
placed b = record { at = λ n. option_map placed_of (b.at n); floor = b.floor }

-- the book of a session; one that is not there has nothing
abbrev pub book_in : Option Session → Book Placed
book_in None = record { at = λ n. None; floor = 0 }
book_in (Some session) = placed (book_of session.chunks)

-- the place of the session of this number, if it is there; the first has the number 1
abbrev pub place_in : List Session → ℕ → Option ℕ
place_in sessions s = if nat_le 1 s && nat_le s (length sessions) then Some (s - 1) else None

-- whether the number of the session at the place k is one of these
abbrev pub is_gone : List Gone → (k n : ℕ) → Bool
is_gone gone k n = list_any (λ one. (k == one.place) && is_in n one.run) gone

abbrev pub standing_of : Depot → Standing
standing_of depot = record { books = λ k. book_in (slice_get depot.stock.sessions.items k); gone = λ k n. depot.lacks && is_gone depot.gone.items k n; lacks = depot.lacks }

-- ---- what a fact makes of it

abbrev pub forgotten : Book Placed → ℕ → Run → Book Placed
forgotten b floor run = record { at = λ n. if is_in_any n (run ∷ []) then None else b.at n; floor = max b.floor floor }

-- the same, and the numbers of the run, where chunks are lacked
abbrev pub gone_after : Standing → (place : ℕ) → Run → (k n : ℕ) → Bool
gone_after it place run k n = it.gone k n || (it.lacks && ((k == place) && is_in n run))

abbrev pub after_fact : Option ChunkFact → Standing → Standing
after_fact None it = it
after_fact (Some (Put s n is_sure place)) it = record { books = λ k. if k == s - 1 then with_at (it.books k) n (Some (record { place = place; is_sure = is_sure })) else it.books k; gone = it.gone; lacks = it.lacks }
after_fact (Some (Forgot s floor run)) it = record { books = λ k. if k == s - 1 then forgotten (it.books k) floor run else it.books k; gone = gone_after it (s - 1) run; lacks = it.lacks }
after_fact (Some Filled) it = record { books = it.books; gone = λ k n. false; lacks = false }

-- the same is under each number of each session, each floor is the same, and so is whether the server lacks chunks, and what was forgotten since
pub record IsSame (a b : Standing) : Type 0 where
  pub at : (k n : ℕ) → (a.books k).at n ≡ (b.books k).at n
  pub floor : (k : ℕ) → (a.books k).floor ≡ (b.books k).floor
  pub gone : (k n : ℕ) → a.gone k n ≡ b.gone k n
  pub lacks : a.lacks ≡ b.lacks

-- The depot is what the fact, if there is one, makes of the other. It has the same sessions, and the tenant may have the same there.
pub record LeadsTo (old : Depot) (fact : Option ChunkFact) (new : Depot) : Type 0 where
  pub standing : IsSame (standing_of new) (after_fact fact (standing_of old))
  pub sessions : length new.stock.sessions.items ≡ length old.stock.sessions.items
  pub allowed : new.stock.allowed ≡ old.stock.allowed

-- how many bytes of the tenant's contents are in memory
abbrev pub in_memory : Depot → ℕ
in_memory depot = fresh_in depot.stock.sessions.items

-- There are no more of them than so many, or than there were.
abbrev pub StaysWithin : (old new : Depot) → Type 0
StaysWithin old new = in_memory new ≤ max (in_memory old) MOST_FRESH_BYTES

-- nothing was ever there
abbrev pub bare : (lacks : Bool) → Standing
bare lacks = record { books = λ k. record { at = λ n. None; floor = 0 }; gone = λ k n. false; lacks = lacks }

-- ---- facts that are read

-- the session is there, and the content is not too long; no number above the floor is forgotten
abbrev pub reads_fact : (sessions : ℕ) → ChunkFact → Bool
reads_fact sessions (Put s n is_sure place) = nat_le 1 s && nat_le s sessions && nat_le (long_at place) MOST_CHUNK
reads_fact sessions (Forgot s floor run) = nat_le 1 s && nat_le s sessions && nat_le run.last floor
reads_fact sessions Filled = true

-- so it is of the fact, if there is one
abbrev pub ReadsFact : (sessions : ℕ) → Option ChunkFact → Type 0
ReadsFact sessions None = ⊤
ReadsFact sessions (Some fact) = reads_fact sessions fact ≡ true

-- the fact says which chunk is under the number
abbrev pub StandsIn : Book Chunk → (s n : ℕ) → ChunkFact → Type 0
StandsIn b s n (Put s' n' is_sure place) = (s' ≡ s) × (n' ≡ n) × (option_map placed_of (b.at n) ≡ Some (record { place = place; is_sure = is_sure }))
StandsIn b s n _ = ⊥

-- what the fact names on the shelf was made sure of there
abbrev pub FactIsSure : Option ChunkFact → Noted → Type 0
FactIsSure (Some (Put s n is_sure place)) noted = PlaceIsSure place noted
FactIsSure _ noted = ⊤
