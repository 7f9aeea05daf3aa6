-- The law of all runs of a tenant by itself, and wherever its turns stand in a longer list.
use Rattle.std.specs.Prelude.{ℕ, ◌<◌, ◌+◌, List, [], ◌∷◌}
use Rattle.gq_grid.specs.Grid.{Grid}
use Rattle.gq_tag.specs.Tag.{File}
use Rattle.gq_desk.specs.declared.plans.TenantRow.{TenantRow}
use Rattle.gq_model.specs.Told.{Told}
use Rattle.gq_model.specs.Trace.{Turn}
use Rattle.gq_model.specs.Lone.{lone}
use Rattle.gq_laws.specs.declared.ops.Op.{Op}
use Rattle.gq_laws.specs.Operations.{Answered, answered, operations, Tagged}

-- the operations on the file in the tenant's run by itself
abbrev pub lone_operations : Grid → TenantRow → List Turn → File → List Op
lone_operations grid row turns file = operations (answered turns (lone grid row turns)) file

-- whatever the turns, the operations on each file are tagged
abbrev pub AllRunsTagged : Type 0
AllRunsTagged = (grid : Grid) (row : TenantRow) (turns : List Turn) (file : File) → Tagged (lone_operations grid row turns file)

-- places that rise
abbrev pub IsRising : (ℕ → ℕ) → Type 0
IsRising place = (i j : ℕ) → i < j → place i < place j

-- the turns with what was told to them, turn i at place i of these
abbrev pub answered_at : (ℕ → ℕ) → List Turn → List Told → List Answered
answered_at place (turn ∷ turns) (told ∷ more) = record { place = place 0; turn = turn; told = told } ∷ answered_at (λ i. place (i + 1)) turns more
answered_at place _ _ = []

-- the same wherever the turns stand in a longer list
abbrev pub AllPlacesTagged : Type 0
AllPlacesTagged = (grid : Grid) (row : TenantRow) (turns : List Turn) (place : ℕ → ℕ) (file : File) → IsRising place → Tagged (operations (answered_at place turns (lone grid row turns)) file)
