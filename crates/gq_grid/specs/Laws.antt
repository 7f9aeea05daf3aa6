-- What makes covering sets quorums: any two of them meet (Maekawa 1985), and the chooser gives only such sets.
-- What makes rows and columns split quorums: each row meets each column.
use Rattle.std.specs.Prelude.{◌≡◌, ℕ, ◌*◌, ◌<◌, true, Some}
use Rattle.gq_grid.specs.Grid.{Grid, Servers, Choice, covers, choose, choice_servers, share_column, has_row, has_column, least_row, least_column, row_servers, column_servers}

-- any two sets that cover share a server of the grid
abbrev pub CoveringSetsMeet : Type 0
CoveringSetsMeet =
    (grid : Grid) (left right : Servers) → covers grid left ≡ true → covers grid right ≡ true →
    (server : ℕ) × (server < grid.rows * grid.cols) × (left server ≡ true) × (right server ≡ true)

-- the servers of a chosen row and column cover
abbrev pub ChosenSetsCover : Type 0
ChosenSetsCover =
    (grid : Grid) (up : Servers) (choice : Choice) → choose grid up ≡ Some choice → covers grid (choice_servers grid choice) ≡ true

-- a set that has a full row and a set that has a full column share a server of the grid
abbrev pub RowsMeetColumns : Type 0
RowsMeetColumns =
    (grid : Grid) (rowed columned : Servers) → has_row grid rowed ≡ true → has_column grid columned ≡ true →
    (server : ℕ) × (server < grid.rows * grid.cols) × (rowed server ≡ true) × (columned server ≡ true)

-- the servers of the least row that is up have a full row
abbrev pub RowUpIsRow : Type 0
RowUpIsRow = (grid : Grid) (up : Servers) (row : ℕ) → least_row grid up ≡ Some row → has_row grid (row_servers grid row) ≡ true

-- the servers of the least column that is up have a full column
abbrev pub ColumnUpIsColumn : Type 0
ColumnUpIsColumn =
    (grid : Grid) (up : Servers) (col : ℕ) → least_column grid up ≡ Some col → has_column grid (column_servers grid col) ≡ true

-- a set that has a full column has servers that have one, too, with each of which all that share its column are among them
abbrev pub ColumnsHavePeers : Type 0
ColumnsHavePeers =
    (grid : Grid) (set : Servers) → has_column grid set ≡ true →
    (some : Servers) × (has_column grid some ≡ true) × ((server : ℕ) → some server ≡ true → set server ≡ true) × ((server peer : ℕ) → some server ≡ true → share_column grid server peer ≡ true → some peer ≡ true)

-- who shares a column with a server that shares one with a third shares one with that
abbrev pub PeersOfPeers : Type 0
PeersOfPeers = (grid : Grid) (server peer other : ℕ) → share_column grid server peer ≡ true → share_column grid peer other ≡ true → share_column grid server other ≡ true
