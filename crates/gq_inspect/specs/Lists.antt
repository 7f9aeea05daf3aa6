-- What the lists of the records by themselves must be.
use Rattle.std.specs.Prelude.{ℕ, ◌≡◌, ◌<◌, List, [], ◌∷◌, ◌++◌, Bool, true, false, ◌&&◌, ◌==◌, nat_lt, Option, Some, None, All, map, length, slice_index_or, if◌then◌else◌}
use Rattle.gq_cell.specs.declared.board.BoardEntry.{BoardEntry}
use Rattle.gq_cell.specs.declared.letter.CellEntry.{CellEntry}
use Rattle.gq_cell.specs.declared.letter.CellEntry.TheVariants.{Served, Stop, Back}
use Rattle.gq_cell.specs.Journal.{stamp_of}
use Rattle.gq_session.specs.declared.records.SessionEntry.{SessionEntry}
use Rattle.gq_session.specs.declared.records.Records.{Records}
use Rattle.gq_inspect.specs.declared.lists.Flip.{Flip}

-- ---- stamps that rise

-- the number is greater than the last one, where there was one
abbrev pub is_above : Option ℕ → ℕ → Bool
is_above None n = true
is_above (Some m) n = nat_lt m n

-- each of the numbers is greater than the one before it, and the first greater than the last one, where there was one
abbrev pub climb_after : Option ℕ → List ℕ → Bool
climb_after last [] = true
climb_after last (n ∷ ns) = is_above last n && climb_after (Some n) ns

-- the stamps of a list rise: of the board's changes, of what a session did, of a server's journal
abbrev pub BoardClimbs : List BoardEntry → Type 0
BoardClimbs es = climb_after None (map (λ (e : BoardEntry). e.stamp) es) ≡ true

abbrev pub SessionClimbs : List SessionEntry → Type 0
SessionClimbs es = climb_after None (map (λ (e : SessionEntry). e.stamp) es) ≡ true

abbrev pub JournalClimbs : List CellEntry → Type 0
JournalClimbs es = climb_after None (map stamp_of es) ≡ true

-- the stamps of each list rise
pub record AllClimb (r : Records) : Type 0 where
  pub board : BoardClimbs r.board.items
  pub sessions : All SessionClimbs r.sessions.items
  pub cells : All JournalClimbs r.cells.items

-- ---- stops and returns

-- the stop or return that an entry of a journal is, if it is one
abbrev pub flip_of : CellEntry → List Flip
flip_of (Served letter reply) = []
flip_of (Stop stamp) = record { stamp = stamp; up = false } ∷ []
flip_of (Back stamp) = record { stamp = stamp; up = true } ∷ []

-- those of a whole journal, in order
abbrev pub flips : List CellEntry → List Flip
flips [] = []
flips (e ∷ es) = flip_of e ++ flips es

-- the stop or return of the server that a change of the board is, if it is one
abbrev pub board_flip : ℕ → BoardEntry → List Flip
board_flip server e = if e.server == server then record { stamp = e.stamp; up = e.up } ∷ [] else []

-- those of all changes, in order
abbrev pub board_flips : ℕ → List BoardEntry → List Flip
board_flips server [] = []
board_flips server (e ∷ es) = board_flip server e ++ board_flips server es

-- the server's journal has the stops and returns that the board has for it
abbrev pub HasFlips : List BoardEntry → List (List CellEntry) → ℕ → Type 0
HasFlips board cells server = flips (slice_index_or cells server []) ≡ board_flips server board

abbrev pub AllFlips : Records → Type 0
AllFlips r = (server : ℕ) → server < length r.cells.items → HasFlips r.board.items r.cells.items server
