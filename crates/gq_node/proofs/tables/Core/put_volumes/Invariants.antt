-- The volumes so far.
use Rattle.std.proofs.Common.{◌≡◌, ◌++◌, ◌<◌, ℕ, map}
use Rattle.std.specs.List.{flat_map, range_with_len}
use Rattle.gq_node.specs.Needing.{volume_facts, files_in, PlaceReadable}
use Rattle.gq_node.specs.Tables.{fact_of}
use Rattle.gq_node.proofs.tables.Core.put_volumes.Given as goal

abbrev pub invariant-loop-volume : goal.invariant-loop-volume
invariant-loop-volume l =
    (l.facts.items ≡ l.fn.facts.items ++ map (fact_of l.tenant) (flat_map (volume_facts l.self l.tenant) (range_with_len 0 l.volume)))
    × ((v : ℕ) → v < l.volume → (p : ℕ) → p < files_in l.self l.tenant v → PlaceReadable l.self l.tenant v p)
