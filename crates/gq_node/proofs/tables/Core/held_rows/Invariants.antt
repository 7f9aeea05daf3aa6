-- The files so far.
use Rattle.std.proofs.Common.{◌≡◌, map}
use Rattle.std.specs.List.{range_with_len}
use Rattle.gq_node.specs.Tables.{row_at_server}
use Rattle.gq_node.proofs.Giving.{at_place}
use Rattle.gq_node.proofs.tables.Core.held_rows.Given as goal

abbrev pub invariant-loop-place : goal.invariant-loop-place
invariant-loop-place l = l.rows.items ≡ map (row_at_server l.self l.tenant) (map (at_place l.volume) (range_with_len 0 l.place))
