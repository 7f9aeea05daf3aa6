-- The words of a quorum, kept.
use Rattle.std.specs.Prelude.{◌≡◌, ℕ, List, ◌∷◌, map, codes, decimal, Option, IfSome}
use Rattle.gq_grid.specs.Grid.{Grid, rising}
use Rattle.gq_grid.specs.Sets.{servers}
use Rattle.gq_grid.specs.declared.Choice.{Choice}
use Rattle.gq_lines.specs.Written.{ended}

-- the grid, and the choice whose words are held
pub record Held : Type 0 where
  pub grid : Grid
  pub choice : Option Choice

-- the words of a quorum, to the end of the line
abbrev pub quorum_text : Grid → Choice → List ℕ
quorum_text grid choice = ended (codes "quorum" ∷ decimal choice.row ∷ decimal choice.col ∷ codes "servers" ∷ map decimal (rising grid (servers choice.servers)))

-- the text is that of the choice
pub record Holds (grid : Grid) (choice : Option Choice) (text : List ℕ) : Type 0 where
  pub words : IfSome choice (λ choice. text ≡ quorum_text grid choice)
