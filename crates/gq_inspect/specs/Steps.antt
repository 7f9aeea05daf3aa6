-- The steps of the records, and their order.
use Rattle.std.specs.Prelude.{ℕ, ◌≡◌, ◌+◌, List, [], ◌∷◌, ◌++◌, Bool, true, ◌&&◌, ◌||◌, ◌==◌, nat_lt, Option, Some, None}
use Rattle.std.specs.List.Sorted.{IsPermutation}
use Rattle.gq_cell.specs.declared.board.BoardEntry.{BoardEntry}
use Rattle.gq_cell.specs.declared.letter.CellEntry.{CellEntry}
use Rattle.gq_cell.specs.declared.letter.CellEntry.TheVariants.{Served, Stop, Back}
use Rattle.gq_session.specs.declared.records.SessionEntry.{SessionEntry}
use Rattle.gq_session.specs.declared.records.Records.{Records}
use Rattle.gq_inspect.specs.declared.steps.Step.{Step}
use Rattle.gq_inspect.specs.declared.steps.Origin.TheVariants.{Board, Session, Server}

-- ---- all steps: the board's and each session's entries at place 0, and at each server's place the letters that it served, at
-- their replies' stamps; a server's stops and returns are the board's steps. A step's
-- `place` is the number of the lock under which its stamp was given; `at` is where its entry stands in its list

abbrev pub board_steps : ℕ → List BoardEntry → List Step
board_steps at [] = []
board_steps at (e ∷ es) = record { stamp = e.stamp; place = 0; origin = Board; at = at } ∷ board_steps (at + 1) es

abbrev pub session_steps : ℕ → ℕ → List SessionEntry → List Step
session_steps session at [] = []
session_steps session at (e ∷ es) = record { stamp = e.stamp; place = 0; origin = Session session; at = at } ∷ session_steps session (at + 1) es

abbrev pub served_step : ℕ → ℕ → ℕ → CellEntry → List Step
served_step place server at (Served letter reply) = record { stamp = reply.stamp; place = place; origin = Server server; at = at } ∷ []
served_step place server at (Stop stamp) = []
served_step place server at (Back stamp) = []

abbrev pub served_steps : ℕ → ℕ → ℕ → List CellEntry → List Step
served_steps place server at [] = []
served_steps place server at (e ∷ es) = served_step place server at e ++ served_steps place server (at + 1) es

abbrev pub sessions_steps : ℕ → List (List SessionEntry) → List Step
sessions_steps session [] = []
sessions_steps session (l ∷ ls) = session_steps session 0 l ++ sessions_steps (session + 1) ls

abbrev pub cells_steps : ℕ → List (List CellEntry) → List Step
cells_steps server [] = []
cells_steps server (l ∷ ls) = served_steps (server + 1) server 0 l ++ cells_steps (server + 1) ls

abbrev pub steps : Records → List Step
steps r = (board_steps 0 r.board.items ++ sessions_steps 0 r.sessions.items) ++ cells_steps 0 r.cells.items

-- ---- the order

-- by stamp, then by place
abbrev pub is_before : Step → Step → Bool
is_before a b = nat_lt a.stamp b.stamp || ((a.stamp == b.stamp) && nat_lt a.place b.place)

-- the step is after the one that may stand before it
abbrev pub follows : Option Step → Step → Bool
follows None b = true
follows (Some a) b = is_before a b

-- each is before the next
abbrev pub rise_after : Option Step → List Step → Bool
rise_after last [] = true
rise_after last (s ∷ ss) = follows last s && rise_after (Some s) ss

-- all steps of the records, each once, rising strictly: there is one such list at most
pub record IsOrderOf (r : Records) (order : List Step) : Type 0 where
  pub same : IsPermutation (steps r) order
  pub rising : rise_after None order ≡ true
