-- Whom a session asks has a full row and a full column.
use Rattle.std.specs.Prelude.{◌≢◌, ℕ, ◌<◌, Some, None}
use Rattle.gq_grid.specs.Grid.{Grid}
use Rattle.gq_phase.specs.Quorums.{collect_quorum, store_quorum}
use Rattle.gq_model.specs.declared.events.Line.{Line}
use Rattle.gq_model.specs.declared.events.Refusal.TheVariants.{NoQuorum}
use Rattle.gq_node.specs.declared.output.Answer.TheVariants.{Refused as IsRefused}
use Rattle.gq_node.specs.Local.{Local, asks}
use Rattle.gq_node.specs.Sites.{Site, aim}

-- so no round of it wants a quorum
abbrev pub AllAimsHaveQuorums : Type 0
AllAimsHaveQuorums = (grid : Grid) (row column : ℕ) → 0 < grid.rows → 0 < grid.cols → (collect_quorum grid (aim grid row column) ≢ None) × (store_quorum grid (aim grid row column) ≢ None)

-- and no request is refused for want of one
abbrev pub AllRequestsHaveQuorums : Type 0
AllRequestsHaveQuorums = (op : ℕ) (line : Line) (site : Site) (local : Local) → 0 < site.grid.rows → 0 < site.grid.cols → (k n : ℕ) → (asks op line site local).answer ≢ Some (IsRefused k n NoQuorum)
