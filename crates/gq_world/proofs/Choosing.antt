-- What is told to a line that asks for the quorum.
use Rattle.std.proofs.Common.{◌≡◌, Some, None, refl, ap}
use Rattle.gq_grid.specs.Grid.{Grid, choose, choice_servers}
use Rattle.gq_grid.specs.declared.Choice.{Choice}
use Rattle.gq_grid.specs.Sets.{servers, shown_choice}
use Rattle.gq_grid.specs.declared.ServerSet.{ServerSet}
use Rattle.gq_model.specs.declared.events.Refusal.TheVariants.{NoQuorum}
use Rattle.gq_model.specs.Told.{Chosen, Refused}
use Rattle.gq_model.specs.Lone.{choice_told}
use Rattle.gq_world.specs.Tables.{up_in}
use Rattle.gq_world.proofs.Channels.{choose_in}

pub chosen_told : (grid : Grid) (set : ServerSet) (choice : Choice) → Some (shown_choice choice) ≡ choose grid (servers set) → servers choice.servers ≡ choice_servers grid (shown_choice choice) → Chosen (shown_choice choice) (servers choice.servers) ≡ choice_told grid (choose grid (up_in grid set))
chosen_told grid set choice place members =
    rw (choose_in grid set, ← place) (ap (λ s. Chosen (shown_choice choice) s) members)

pub none_told : (grid : Grid) (set : ServerSet) → None ≡ choose grid (servers set) → Refused NoQuorum ≡ choice_told grid (choose grid (up_in grid set))
none_told grid set place = rw (choose_in grid set, ← place) refl
