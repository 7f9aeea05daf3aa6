-- The volumes so far.
use Rattle.std.proofs.Common.{◌≡◌, vec_len, vec_capacity}
use Rattle.gq_node.specs.Lacks.{all_lost}
use Rattle.gq_node.proofs.lacks.Lacks.all.Given as goal

abbrev pub invariant-loop-volume : goal.invariant-loop-volume
invariant-loop-volume l =
    (l.volumes.items ≡ all_lost l.rows l.volume)
    × (vec_len l.volumes ≡ l.volume)
    × (vec_capacity l.volumes ≡ vec_capacity l.initial.volumes)
