-- Of the files so far those that are lacked.
use Rattle.std.proofs.Common.{◌≡◌, map}
use Rattle.std.specs.List.{count_by, range_with_len}
use Rattle.gq_node.specs.Tables.{lacks_at}
use Rattle.gq_node.proofs.Giving.{at_place}
use Rattle.gq_node.proofs.tables.Core.lacked_in.Given as goal

abbrev pub invariant-loop-place : goal.invariant-loop-place
invariant-loop-place l = l.lacked ≡ count_by (lacks_at l.self l.tenant) (map (at_place l.volume) (range_with_len 0 l.place))
