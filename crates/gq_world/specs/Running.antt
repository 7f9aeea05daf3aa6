-- The servers that are up, with the quorum that is chosen among them.
use Rattle.std.specs.Prelude.{◌≡◌, Option, option_map, IfSome}
use Rattle.gq_grid.specs.Grid.{Grid, choose, choice_servers}
use Rattle.gq_grid.specs.Sets.{servers, shown_choice}
use Rattle.gq_grid.specs.declared.ServerSet.{ServerSet}
use Rattle.gq_grid.specs.declared.Choice.{Choice}

pub record Running : Type 0 where
  pub grid : Grid
  pub up : ServerSet

-- the choice is the one among the servers that are up
pub record IsChoice (grid : Grid) (up : ServerSet) (choice : Option Choice) : Type 0 where
  pub place : option_map shown_choice choice ≡ choose grid (servers up)
  pub servers : IfSome choice (λ c. servers c.servers ≡ choice_servers grid (shown_choice c))
