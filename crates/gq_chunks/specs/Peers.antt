-- The other nodes of a column.
use Rattle.std.specs.Prelude.{ℕ, ◌*◌, ◌%◌, List, Bool, not, ◌&&◌, ◌==◌, nat_lt}
use Rattle.gq_desk.specs.CheckedPlan.{CheckedPlan}
use Rattle.gq_node.specs.Sites.{plan_in}
use Rattle.gq_replace.specs.Plans.{place_of, node_at}

-- The other stands at another place of the same column, by the plan and the places whose nodes were lost. So it is neither one that is replaced, nor one that the plan does not know
-- yet (`stands` of `gq_column`).
abbrev pub is_peer : CheckedPlan → (node : ℕ) → (lost : List ℕ) → (other : ℕ) → Bool
is_peer plan node lost other =
    nat_lt (place_of other) (plan.grid.rows * plan.grid.cols)
    && (not (place_of other == place_of node) && ((place_of other % plan.grid.cols == place_of node % plan.grid.cols) && (node_at (plan_in lost) (place_of other) == other)))
