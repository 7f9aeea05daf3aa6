use Rattle.std.proofs.Common.{◌≡◌, ◌+◌, vec_len}
use Rattle.std.specs.List.{sum_by}
use Rattle.gq_store.specs.Copies.{volume_taken}
use Rattle.gq_store.proofs.volumes.Tenant.spend.Given as goal

abbrev pub invariant-loop-volume : goal.invariant-loop-volume
invariant-loop-volume l = l.pool + sum_by volume_taken l.volumes.items ≡ l.initial.pool + sum_by volume_taken l.initial.volumes.items

abbrev pub decreases-loop-volume : goal.decreases-loop-volume
decreases-loop-volume l = vec_len l.volumes
