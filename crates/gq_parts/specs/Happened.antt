-- The worked case happens: nodes of which none was ever started come to all that its run says.
use Rattle.std.specs.Prelude.{ℕ, ◌^◌, ◌<◌, List, [], ◌∷◌, ◌++◌}
use Rattle.gq_node.specs.declared.output.Fact.{Fact}
use Rattle.gq_node.specs.Nodes.{new_nodes}
use Rattle.gq_parts.specs.AllNodes.{world_at, AllNodes, AllNew, Happening, Starts, Renews, AllHappen, all_events, LinesCanCome, IsOneRegister, IsByLaw}
use Rattle.gq_parts.specs.Worked.{grid_worked, run_worked}

-- Behind all writes node 193 starts again, by its journal. That of node 0 is written anew with these facts, and it starts again by them.
abbrev pub run_restarted : (many : ℕ) → List Fact → List Happening
run_restarted many facts = run_worked many ++ Starts 193 3 ∷ Renews 0 facts ∷ Starts 0 3 ∷ []

-- Nodes of which none was ever started come to all of this, and so they are nodes of the law. All its lines can come, and so the tenant's file is one
-- register.
pub record HasHappened (many : ℕ) : Type 0 where
  pub first : AllNodes
  pub last : AllNodes
  pub facts : List Fact
  pub new : AllNew first
  pub happen : AllHappen grid_worked first (run_restarted many facts) last
  pub law : IsByLaw grid_worked (run_restarted many facts) last
  pub can : LinesCanCome grid_worked 0 (new_nodes (world_at grid_worked 0)) (run_restarted many facts)
  pub right : IsOneRegister grid_worked 0 (all_events grid_worked 0 (run_restarted many facts))

-- however many writes there are: a session has no more than so many numbers
abbrev pub AllWorkedHappen : Type 0
AllWorkedHappen = (many : ℕ) → many < 2 ^ 32 → HasHappened many
