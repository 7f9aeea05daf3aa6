-- The five words on quorums: whom a round asks, when the servers heard end it, and who can give a server back what it lost. Only the
-- functions of src/quorums.rt, the proofs of Laws and worked cases open them: all else knows of them what Laws says.
--
-- One server down in each row stops all requests, and one down in each column all store rounds. So a grid survives fewer
-- outages than a majority does, and its rounds are short: on 8 by 8 a round asks eight, where a majority asks 33. On 3 by 3
-- both a row and a column are up in 36 of the 84 ways in which three may be down; a majority bears any four.
use Rattle.std.specs.Prelude.{ℕ, Bool, Option, option_map}
use Rattle.gq_grid.specs.Grid.{Grid, Servers, has_row, has_column, share_column, least_row, least_column, row_servers, column_servers}

-- the servers that a collect round asks, where the servers of up are up: a full row; none where no row is up
unfoldable pub collect_quorum : Grid → Servers → Option Servers
collect_quorum grid up = option_map (row_servers grid) (least_row grid up)

-- the servers that a store round sends to: a full column; none where no column is up
unfoldable pub store_quorum : Grid → Servers → Option Servers
store_quorum grid up = option_map (column_servers grid) (least_column grid up)

-- whether a collect round ends where these servers were heard
unfoldable pub ends_collect : Grid → Servers → Bool
ends_collect grid heard = has_row grid heard

-- whether a store round ends where these servers were heard
unfoldable pub ends_store : Grid → Servers → Bool
ends_store grid heard = has_column grid heard

-- whether a server that has lost its copies can be given them by the other
unfoldable pub are_peers : Grid → ℕ → ℕ → Bool
are_peers grid server peer = share_column grid server peer
