-- In which column a session stores behind a letter: a read or a listing where one stands who gave it the copy.
--
-- What a read or a listing stores came from others, one of which has it. A `confirm` to each server of a column where one
-- gave the copy does the same without the content. In the session's own column those who lack it would say `want`, a trip
-- more. But that other column may have a node that is down. So a session that waited stores in its own column for 256
-- rounds, which it knows from its own letters alone.
use Rattle.std.specs.Prelude.{◌≡◌, ℕ, ◌*◌, ◌%◌, ◌-◌, ◌<◌, List, Bool, true, false, ◌&&◌, ◌==◌, Option, Some, None, find, unwrap_or, if◌then◌else◌}
use Rattle.std.specs.List.{list_any}
use Rattle.gq_grid.specs.Grid.{Grid, Servers, below, server_at}
use Rattle.gq_tag.specs.Tag.{OwnMessage, greatest}
use Rattle.gq_phase.specs.Phase.{Task, Writing, Reading, Listing, Reply, Operation, is_current, with_reply, heard_copies, givers}
use Rattle.gq_model.specs.Told.{Told, Round}

-- one of the servers stands in the column
abbrev pub stands_in : Grid → Servers → (column : ℕ) → Bool
stands_in grid set column = list_any (λ r. set (server_at grid r column)) (below grid.rows)

-- that column, if one of the servers stands in it; else the first in which one does, and that one, where none does in any
abbrev pub column_among : Grid → Servers → (column : ℕ) → ℕ
column_among grid set column = if stands_in grid set (column % grid.cols) then column else unwrap_or (find (stands_in grid set) (below grid.cols)) column

-- ---- who gave the copy

-- what was heard in the round, with the letter where it is of that
abbrev pub heard_with : Operation → OwnMessage → List Reply
heard_with o m = if is_current o m then (with_reply o m).heard else o.heard

-- the servers that told the greatest of the copies heard
abbrev pub gave : List Reply → Servers
gave heard = givers (greatest (heard_copies heard)).tag heard

-- ---- the column

-- a read and a listing store what they were given
abbrev pub passes_on : Task → Bool
passes_on (Writing file bytes) = false
passes_on (Reading file) = true
passes_on (Listing volume files) = true

-- whether others are asked to confirm the copy that the session's operation stores: of one that passes on what it was given, where the session does not
-- stay in its own column for some rounds more
abbrev pub asks_to_confirm : (stays : ℕ) → Option Operation → Bool
asks_to_confirm stays None = false
asks_to_confirm stays (Some o) = passes_on o.task && stays == 0

-- the column that a session stores in behind the letter, whose own is that one
abbrev pub column_behind : Grid → (stays column : ℕ) → Option Operation → OwnMessage → ℕ
column_behind grid stays column None m = column
column_behind grid stays column (Some o) m = if passes_on o.task && stays == 0 then column_among grid (gave (heard_with o m)) column else column

-- for so many rounds a session stays in its own column, once a store of it had to go out again; behind what it was told it stays for that many
abbrev pub rounds_stayed : ℕ
rounds_stayed = 256

abbrev pub stays_after : Told → (stays : ℕ) → ℕ
stays_after (Round round tag first count) stays = stays - 1
stays_after _ stays = stays

-- ---- the law

-- where a server of the grid told the greatest of the copies heard, one that did so stands in the column in which others are asked to confirm it
abbrev pub AllStoresGoWhereGiven : Type 0
AllStoresGoWhereGiven =
    (grid : Grid) (stays column : ℕ) (o : Operation) (m : OwnMessage) (server : ℕ) → asks_to_confirm stays (Some o) ≡ true → server < grid.rows * grid.cols → gave (heard_with o m) server ≡ true →
    stands_in grid (gave (heard_with o m)) (column_behind grid stays column (Some o) m % grid.cols) ≡ true
