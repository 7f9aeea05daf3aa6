-- The changes of a list that were done.
use Rattle.std.specs.Prelude.{ℕ, ◌≡◌, List, [], ◌∷◌, Bool, true, false, map}
use Rattle.gq_cell.specs.declared.board.BoardEntry.{BoardEntry}
use Rattle.gq_session.specs.declared.schedule.Change.{Change}
use Rattle.gq_model.specs.declared.events.ServerLine.{ServerLine}
use Rattle.gq_model.specs.declared.events.ServerLine.TheVariants.{Down, Up}

-- the changes whose flag is true: some of them, in order
abbrev pub picked : List Bool → List ServerLine → List ServerLine
picked [] cs = []
picked (b ∷ bs) [] = []
picked (true ∷ bs) (c ∷ cs) = c ∷ picked bs cs
picked (false ∷ bs) (c ∷ cs) = picked bs cs

-- the line that brings the server up, or stops it
abbrev pub server_line : ℕ → Bool → ServerLine
server_line server true = Up server
server_line server false = Down server

-- the server line that a change is
abbrev pub change_line : Change → ServerLine
change_line change = server_line change.server change.up

-- the server lines that entries of the board are
abbrev pub entry_line : BoardEntry → ServerLine
entry_line entry = server_line entry.server entry.up

abbrev pub changes_of : List BoardEntry → List ServerLine
changes_of entries = map entry_line entries

-- these are some of the changes, in order
abbrev pub IsSubsequence : List ServerLine → List ServerLine → Type 0
IsSubsequence some all = (picks : List Bool) × (some ≡ picked picks all)
