-- In which segments of the shelf no chunk lies. What lies there is nobody's from then on: a chunk that comes later lies behind all that is on the shelf, and a
-- start has the chunks that there were.
use Rattle.std.specs.Prelude.{◌≡◌, ℕ, List, Some, slice_get}
use Rattle.gq_ledger.specs.Ledgers.{book_of}
use Rattle.gq_stock.specs.Segments.{NoneIn, SomeIn}
use Rattle.gq_stock.specs.declared.session.Session.{Session}
use Rattle.gq_depot.specs.Depots.{standing_of, IsSame}
use Rattle.gq_depot.specs.declared.depot.Depot.{Depot}

-- no chunk of the tenant lies in the segment
abbrev pub NoneOf : (segment : ℕ) → Depot → Type 0
NoneOf segment depot = (k : ℕ) (session : Session) → slice_get depot.stock.sessions.items k ≡ Some session → NoneIn segment (book_of session.chunks)

-- no chunk of any tenant does
abbrev pub NoneLies : (segment : ℕ) → List Depot → Type 0
NoneLies segment depots = (t : ℕ) (depot : Depot) → slice_get depots t ≡ Some depot → NoneOf segment depot

-- one of this tenant does
pub record SomeOf (segment : ℕ) (depot : Depot) : Type 0 where
  pub place : ℕ
  pub session : Session
  pub there : slice_get depot.stock.sessions.items place ≡ Some session
  pub some : SomeIn segment (book_of session.chunks)

-- one of some tenant does
pub record SomeLies (segment : ℕ) (depots : List Depot) : Type 0 where
  pub tenant : ℕ
  pub depot : Depot
  pub there : slice_get depots tenant ≡ Some depot
  pub some : SomeOf segment depot

-- where none does, none does in a depot that has the same, as one that a start makes again
abbrev pub NoneAgain : Type 0
NoneAgain = (segment : ℕ) (depot again : Depot) → IsSame (standing_of again) (standing_of depot) → NoneOf segment depot → NoneOf segment again
