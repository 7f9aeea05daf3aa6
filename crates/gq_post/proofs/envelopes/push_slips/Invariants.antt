-- The slips to the servers so far, how many they are, and room for the rest.
use Rattle.std.proofs.Common.{◌≡◌, ◌++◌, ◌+◌, ◌≤◌, length, map}
use Rattle.std.specs.Prelude.{filter, vec_len, vec_capacity}
use Rattle.std.specs.List.{range_with_len}
use Rattle.gq_grid.specs.Sets.{servers}
use Rattle.gq_round.specs.Round.{apart}
use Rattle.gq_post.specs.Slips.{slip_to}
use Rattle.gq_post.proofs.envelopes.push_slips.Given as goal

abbrev pub invariant-loop-server : goal.invariant-loop-server
invariant-loop-server l =
    (l.slips.items ≡ l.initial.slips.items ++ map (slip_to l.slip) (filter (apart (servers l.to) (servers l.except)) (range_with_len 0 l.server)))
    × (l.count ≡ length (map (slip_to l.slip) (filter (apart (servers l.to) (servers l.except)) (range_with_len 0 l.server))))
    × (l.count ≤ l.server)
    × (vec_len l.slips + l.server-end ≤ vec_capacity l.slips + l.server)
