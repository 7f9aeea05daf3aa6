use Rattle.std.proofs.Common.{ℕ, ◌<◌, List, get_or}
use Rattle.gq_cell.specs.declared.letter.CellEntry.{CellEntry}
use Rattle.gq_inspect.specs.Lists.{JournalClimbs}
use Rattle.gq_inspect.proofs.lists.cells_climb.Given as goal

abbrev pub invariant-loop-place : goal.invariant-loop-place
invariant-loop-place l = (k : ℕ) (d : List CellEntry) → k < l.place → JournalClimbs (get_or l.cells k d)
