use Rattle.std.proofs.Common.{◌≡◌, replicate, vec_len, vec_capacity}
use Rattle.gq_tag.specs.Tag.{first_copy}
use Rattle.gq_store.proofs.volumes.Volume.new.Given as goal

abbrev pub invariant-loop : goal.invariant-loop
invariant-loop l =
    (l.entries.items ≡ replicate l.counter first_copy)
    × (vec_len l.entries ≡ l.counter)
    × (vec_capacity l.entries ≡ vec_capacity l.initial.entries)
