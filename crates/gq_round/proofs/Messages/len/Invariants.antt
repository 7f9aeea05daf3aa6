-- The number of the servers so far, and no more than there were.
use Rattle.std.proofs.Common.{◌≡◌, ◌≤◌, length, map}
use Rattle.std.specs.Prelude.{filter}
use Rattle.std.specs.List.{range_with_len}
use Rattle.gq_grid.specs.Sets.{servers}
use Rattle.gq_round.specs.Round.{addressed, apart}
use Rattle.gq_round.proofs.Messages.len.Given as goal

abbrev pub invariant-loop-server : goal.invariant-loop-server
invariant-loop-server l =
    (l.count ≡ length (map (addressed l.self-inside.message) (filter (apart (servers l.self-inside.to) (servers l.self-inside.except)) (range_with_len 0 l.server))))
    × (l.count ≤ l.server)
