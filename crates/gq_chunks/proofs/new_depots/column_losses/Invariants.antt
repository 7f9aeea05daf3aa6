-- Of the places so far.
use Rattle.std.proofs.Common.{◌≡◌, ◌≤◌, take}
use Rattle.gq_chunks.specs.Machines.{column_losses}
use Rattle.gq_chunks.proofs.new_depots.column_losses.Given as goal

abbrev pub invariant-loop-other : goal.invariant-loop-other
invariant-loop-other l = (l.losses ≡ column_losses l.cols l.place (take l.other-index l.lost)) × (l.losses ≤ l.other-index)
