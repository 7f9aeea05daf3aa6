-- The board with the list of changes: what a step of a session, and a change of the list, does there.
use Rattle.std.specs.Prelude.{ℕ, ◌≡◌, ◌≢◌, ◌≤◌, ◌^◌, ◌⊎◌, [], ◌∷◌, ◌++◌, true, false, Some, length, slice_get, if◌then◌else◌}
use Rattle.gq_grid.specs.Grid.{Servers}
use Rattle.gq_cell.specs.Boards.{up_of, board_with}
use Rattle.gq_cell.specs.Journal.{is_up, last_stamp_of}
use Rattle.gq_cell.specs.Keeping.{Journaled}
use Rattle.gq_cell.specs.Serving.{with_entry}
use Rattle.gq_cell.specs.Stamps.{stamp_after}
use Rattle.gq_cell.specs.declared.letter.CellEntry.TheVariants.{Stop, Back}
use Rattle.gq_session.specs.Changed.{change_line}
use Rattle.gq_session.specs.declared.schedule.Schedule.{Schedule}
use Rattle.gq_session.specs.declared.schedule.Change.{Change}
use Rattle.gq_session.specs.declared.records.LiveFault.{LiveFault}
use Rattle.gq_session.specs.declared.records.LiveFault.TheVariants.{Memory, Stamps, Letter}

-- the servers that are up
abbrev pub servers_up : Schedule → Servers
servers_up schedule = up_of schedule.board.grid schedule.board.entries

pub record IsSameSchedule (old new : Schedule) : Type 0 where
  pub board : new.board ≡ old.board
  pub list : new.list.items ≡ old.list.items
  pub done : new.done.items ≡ old.done.items

-- the stamp is given, above the last and above one that was seen; it is the last then, and else nothing differs
pub record IsStamped (old new : Schedule) (seen stamp : ℕ) : Type 0 where
  pub above : stamp ≡ stamp_after old.board.last seen
  pub board : new.board ≡ record { grid = old.board.grid; last = stamp; entries = old.board.entries }
  pub list : new.list.items ≡ old.list.items
  pub done : new.done.items ≡ old.done.items

-- the grid, the changes of the board, the list and the place reached stay
pub record KeepsChanges (old new : Schedule) : Type 0 where
  pub grid : new.board.grid ≡ old.board.grid
  pub entries : new.board.entries ≡ old.board.entries
  pub list : new.list.items ≡ old.list.items
  pub done : new.done.items ≡ old.done.items

-- no stamp is left above the last one and one that was seen; or memory is wanting
abbrev pub IsStampFault : Schedule → ℕ → LiveFault → Type 0
IsStampFault schedule seen (Memory _) = Unit {0}
IsStampFault schedule seen Stamps = 2 ^ 64 ≤ stamp_after schedule.board.last seen
IsStampFault schedule seen _ = ⊥

-- ---- the next change

-- the next change of the list is passed by
pub record PassesBy (old new : Schedule) : Type 0 where
  pub board : new.board ≡ old.board
  pub list : new.list.items ≡ old.list.items
  pub done : new.done.items ≡ old.done.items ++ false ∷ []

-- the next change of the list is done at the board, at the stamp
pub record Changes (old new : Schedule) (change : Change) (seen stamp : ℕ) : Type 0 where
  pub above : stamp ≡ stamp_after old.board.last seen
  pub board : new.board ≡ board_with stamp change.server change.up old.board
  pub list : new.list.items ≡ old.list.items
  pub done : new.done.items ≡ old.done.items ++ true ∷ []

-- the change is the list's next
abbrev pub IsNext : Schedule → Change → Type 0
IsNext schedule change = slice_get schedule.list.items (length schedule.done.items) ≡ Some (change_line change)

-- no change of the list is left, and nothing differs
pub record HasNone (old new : Schedule) (before after : Journaled) : Type 0 where
  pub none : length old.list.items ≤ length old.done.items
  pub schedule : IsSameSchedule old new
  pub cell : after ≡ before

-- the next change is so already, at the cell or at the board, and is passed by
pub record CellPasses (old new : Schedule) (before after : Journaled) : Type 0 where
  pub change : Change
  pub next : IsNext old change
  pub server : change.server ≡ before.server
  pub is_so : (is_up before.journal ≡ change.up) ⊎ (servers_up old change.server ≡ change.up)
  pub schedule : PassesBy old new
  pub cell : after ≡ before

-- the next change is done at the board, above the cell's last stamp, and at that stamp at the cell
pub record CellChanges (old new : Schedule) (before after : Journaled) : Type 0 where
  pub change : Change
  pub next : IsNext old change
  pub server : change.server ≡ before.server
  pub differs : is_up before.journal ≢ change.up
  pub stamp : ℕ
  pub schedule : Changes old new change (last_stamp_of before.journal) stamp
  pub cell : after ≡ with_entry (if change.up then Back stamp else Stop stamp) before

abbrev pub ChangesCell : Schedule → Schedule → Journaled → Journaled → Type 0
ChangesCell old new before after = HasNone old new before after ⊎ (CellPasses old new before after ⊎ CellChanges old new before after)

-- no stamp is left, or the next change is of another server
abbrev pub IsChangeFault : Schedule → Journaled → LiveFault → Type 0
IsChangeFault schedule cell (Memory _) = Unit {0}
IsChangeFault schedule cell Stamps = 2 ^ 64 ≤ stamp_after schedule.board.last (last_stamp_of cell.journal)
IsChangeFault schedule cell Letter = (change : Change) × (IsNext schedule change × (change.server ≢ cell.server))
IsChangeFault schedule cell _ = ⊥
