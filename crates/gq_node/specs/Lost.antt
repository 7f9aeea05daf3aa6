-- How often each place of a grid stands among the places whose nodes were lost.
use Rattle.std.specs.Prelude.{◌≡◌, ℕ, ◌≤◌, List, length, slice_index_or}
use Rattle.gq_grid.specs.declared.TheConstants.{MOST_SERVERS}
use Rattle.gq_replace.specs.Plans.{times}
use Rattle.gq_node.specs.declared.lost.TheConstants.{MOST_TIMES}
use Rattle.gq_node.specs.Sites.{plan_in}

-- these are the counts, for each place of a grid, and none is above the most
pub record IsCounted (places counts : List ℕ) : Type 0 where
  pub long : length counts ≡ MOST_SERVERS
  pub counted : (place : ℕ) → slice_index_or counts place 0 ≡ times (plan_in places) place
  pub few : (place : ℕ) → times (plan_in places) place ≤ MOST_TIMES
