-- Which nodes and sessions there are, which node is a session's home, and whom a session asks.
--
-- The words: a *place* is a server of the grid. Nodes have numbers by which one knows their place, and how many nodes stood there before
-- (`gq_replace/specs/Plans.antt`). So it is with sessions: each of a tenant's has a place among these, from 0, and with each node that is lost at
-- its home the session at its place has a number that is greater by MOST_SESSIONS.
use Rattle.std.specs.Prelude.{ℕ, ◌+◌, ◌-◌, ◌*◌, ◌/◌, ◌%◌, List, length, take, sum_by, map, filter, nat_lt, Bool, ◌==◌, ◌&&◌, if◌then◌else◌}
use Rattle.std.specs.List.{flat_map, range_with_len}
use Rattle.gq_grid.specs.Grid.{Grid, Servers, choice_servers}
use Rattle.gq_tag.specs.declared.Message.{Message}
use Rattle.gq_tag.specs.Tag.{to_server}
use Rattle.gq_desk.specs.CheckedPlan.{CheckedPlan, row_at}
use Rattle.gq_desk.specs.Plans.{is_in}
use Rattle.gq_desk.specs.declared.plans.TenantRow.{TenantRow}
use Rattle.gq_desk.specs.declared.limits.TheConstants.{MOST_SESSIONS}
use Rattle.gq_replace.specs.Plans.{Plan, times, node_at, most_places, place_of, generation}
use Rattle.gq_node.specs.declared.lost.TheConstants.{MOST_NUMBERS, MOST_TIMES}

-- which node this is: its number, and the places whose nodes its plan says were lost, in order
pub record Here : Type 0 where
  pub node : ℕ
  pub lost : List ℕ

-- what its plan says of nodes, in the words of the law
abbrev pub plan_in : List ℕ → Plan
plan_in lost = record { lost = lost; volumes = 0 }

-- ---- sessions

-- all sessions of the plan, in plan order, numbered from 0: the number of the one at that place of the tenant at place t
abbrev pub number_of : List TenantRow → (t place : ℕ) → ℕ
number_of rows t place = place + sum_by (λ row. row.sessions) (take t rows)

-- the place of its home
abbrev pub home_place : CheckedPlan → (t place : ℕ) → ℕ
home_place plan t place = number_of plan.rows t place % (plan.grid.rows * plan.grid.cols)

-- the place of session k among its tenant's; and how many nodes were lost before at the place of its home
abbrev pub session_state_place : ℕ → ℕ
session_state_place k = (k - 1) % MOST_SESSIONS

abbrev pub session_generation : ℕ → ℕ
session_generation k = (k - 1) / MOST_SESSIONS

-- the node that is its home
abbrev pub home_of : CheckedPlan → (t k : ℕ) → ℕ
home_of plan t k = session_generation k * most_places + home_place plan t (session_state_place k)

-- the session that the node's plan has at that place of the tenant at place t
abbrev pub session_at : CheckedPlan → Here → (t place : ℕ) → ℕ
session_at plan here t place = times (plan_in here.lost) (home_place plan t place) * MOST_SESSIONS + place + 1

-- whether this is one of them
abbrev pub is_of_plan : CheckedPlan → Here → (t k : ℕ) → Bool
is_of_plan plan here t k = nat_lt (session_state_place k) (row_at plan t).sessions && session_generation k == times (plan_in here.lost) (home_place plan t (session_state_place k))

-- the node that a letter goes to
abbrev pub address_of : CheckedPlan → Here → Message → ℕ
address_of plan here m = if to_server m.body then node_at (plan_in here.lost) m.server else home_of plan m.tenant m.session

-- ---- whom a session asks

-- the servers that a session takes for those that are up: a row and a column of the grid, both counted round
abbrev pub aim : Grid → ℕ → ℕ → Servers
aim grid row column = choice_servers grid (record { row = row % grid.rows; col = column % grid.cols })

-- the row, or the column, after that one: behind the last of so many the first follows
abbrev pub next_of : ℕ → ℕ → ℕ
next_of many n = if nat_lt (n + 1) many then n + 1 else 0

-- ---- a node as one tenant sees it

-- the tenant's row, in which it has all sessions that it may ever have
abbrev pub numbered : TenantRow → TenantRow
numbered row = record row { sessions = MOST_NUMBERS }

-- the grid, the node's number and the place of its server; the tenant's row, with all sessions that it may ever have, and how many the plan
-- gives it; which of them are those of the plan, and which node each one's home is; the place of the first one's home; the node that the plan
-- has at each place, and how many losses it tells of
pub record Site : Type 0 where
  pub grid : Grid
  pub here : ℕ
  pub place : ℕ
  pub row : TenantRow
  pub sessions : ℕ
  pub is_of_plan : ℕ → Bool
  pub home : ℕ → ℕ
  pub first_home : ℕ
  pub node_at : ℕ → ℕ
  pub losses : ℕ

abbrev pub site_of : CheckedPlan → Here → ℕ → Site
site_of plan here t = record {
  grid = plan.grid;
  here = here.node;
  place = place_of here.node;
  row = numbered (row_at plan t);
  sessions = (row_at plan t).sessions;
  is_of_plan = is_of_plan plan here t;
  home = home_of plan t;
  first_home = home_place plan t 0;
  node_at = node_at (plan_in here.lost);
  losses = length here.lost;
}

-- whether the node's plan has session k
abbrev pub has_session : Site → ℕ → Bool
has_session site k = is_in 1 site.row.sessions k && site.is_of_plan k

-- whether another node was lost at this one's place before
abbrev pub is_new : Site → Bool
is_new site = nat_lt 0 (generation site.here)

-- the places of the grid; whether the node's plan has that node
abbrev pub places_of : Site → List ℕ
places_of site = range_with_len 0 (site.grid.rows * site.grid.cols)

abbrev pub has_node : Site → (node : ℕ) → Bool
has_node site node = nat_lt (place_of node) (site.grid.rows * site.grid.cols) && site.node_at (place_of node) == node

-- of the nodes of the plan those before which so many were lost at their place, or more, in rising order
abbrev pub nodes_from : Site → (first : ℕ) → List ℕ
nodes_from site first = flat_map (λ turn. filter (λ node. generation node == turn) (map site.node_at (places_of site))) (range_with_len first (MOST_TIMES + 1 - first))
