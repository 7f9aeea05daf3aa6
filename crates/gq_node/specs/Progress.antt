-- Ticks lead a session from row to row, and from column to column.
use Rattle.std.specs.Prelude.{◌≡◌, ℕ, zero, suc, ◌≤◌, ◌<◌, List, true, false, is_some}
use Rattle.gq_grid.specs.Grid.{Servers}
use Rattle.gq_tag.specs.Tag.{OwnMessage}
use Rattle.gq_phase.specs.Phase.{is_collect}
use Rattle.gq_model.specs.Trace.{operation}
use Rattle.gq_model.specs.Lone.{retry_step}
use Rattle.gq_node.specs.Inputs.{Ticked, after_one}
use Rattle.gq_node.specs.Local.{Local, state_of, ticks}
use Rattle.gq_node.specs.Sites.{Site, aim}

-- the tenant's part after so many ticks for session k, where nothing else came
abbrev pub after_ticks : Site → Local → (k n : ℕ) → Local
after_ticks site local k zero = local
after_ticks site local k (suc n) = after_one site (after_ticks site local k n) (Ticked k)

-- what the tick behind these sends
abbrev pub sent_then : Site → Local → (k n : ℕ) → List OwnMessage
sent_then site local k n = (ticks k site (after_ticks site local k n)).letters

-- what a retry of the session sends to these servers: its round's message, to those that it has not heard
abbrev pub resent_to : Site → Local → ℕ → Servers → List OwnMessage
resent_to site local k servers = (retry_step site.grid (state_of servers local) (operation (state_of servers local) k)).new

-- where the session has an operation whose round collects, one of the next ticks, one more than there are rows, takes the servers of any
-- row and of the session's column for those that are up
abbrev pub AllRowsAreTried : Type 0
AllRowsAreTried = (site : Site) (local : Local) (k row : ℕ) → is_some (local.residents k).session.current ≡ true → is_collect (local.residents k).session.round ≡ true → row < site.grid.rows →
    (n : ℕ) × (n ≤ site.grid.rows) × (sent_then site local k n ≡ resent_to site local k (aim site.grid row (local.residents k).column))

-- and where the round stores, one of the next, one more than there are columns, those of any column and of the session's row
abbrev pub AllColumnsAreTried : Type 0
AllColumnsAreTried = (site : Site) (local : Local) (k column : ℕ) → is_some (local.residents k).session.current ≡ true → is_collect (local.residents k).session.round ≡ false → column < site.grid.cols →
    (n : ℕ) × (n ≤ site.grid.cols) × (sent_then site local k n ≡ resent_to site local k (aim site.grid (local.residents k).row column))
