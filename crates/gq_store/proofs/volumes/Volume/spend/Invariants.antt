use Rattle.std.proofs.Common.{◌≡◌, ◌+◌, vec_len}
use Rattle.std.specs.List.{sum_by}
use Rattle.gq_store.specs.Copies.{taken}
use Rattle.gq_store.proofs.volumes.Volume.spend.Given as goal

abbrev pub invariant-loop-entry : goal.invariant-loop-entry
invariant-loop-entry l = l.pool + sum_by taken l.files.items ≡ l.initial.pool + sum_by taken l.initial.files.items

abbrev pub decreases-loop-entry : goal.decreases-loop-entry
decreases-loop-entry l = vec_len l.files
