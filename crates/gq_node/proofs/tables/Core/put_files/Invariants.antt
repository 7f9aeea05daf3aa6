-- The files so far.
use Rattle.std.proofs.Common.{◌≡◌, ◌++◌, ◌<◌, ℕ, map}
use Rattle.std.specs.List.{flat_map, range_with_len}
use Rattle.gq_node.specs.Needing.{place_facts, PlaceReadable}
use Rattle.gq_node.specs.Tables.{fact_of}
use Rattle.gq_node.proofs.tables.Core.put_files.Given as goal

abbrev pub invariant-loop-place : goal.invariant-loop-place
invariant-loop-place l =
    (l.facts.items ≡ l.fn.facts.items ++ map (fact_of l.tenant) (flat_map (place_facts l.self l.tenant l.volume) (range_with_len 0 l.place)))
    × ((p : ℕ) → p < l.place → PlaceReadable l.self l.tenant l.volume p)
