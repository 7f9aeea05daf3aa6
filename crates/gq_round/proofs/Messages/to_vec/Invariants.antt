-- The messages to the servers so far.
use Rattle.std.proofs.Common.{◌≡◌, map}
use Rattle.std.specs.Prelude.{filter}
use Rattle.std.specs.List.{range_with_len}
use Rattle.gq_grid.specs.Sets.{servers}
use Rattle.gq_round.specs.Round.{addressed, apart}
use Rattle.gq_round.proofs.Messages.to_vec.Given as goal

abbrev pub invariant-loop-server : goal.invariant-loop-server
invariant-loop-server l = l.messages.items ≡ map (addressed l.common) (filter (apart (servers l.self-inside.to) (servers l.self-inside.except)) (range_with_len 0 l.server))
