-- Each law of the five words.
use Rattle.gq_phase.proofs.Meeting.{rounds_meet, collect_quorums_end, store_quorums_end, quorums_are_up, nobody_ends, more_still_end, quorums_in_grid, stores_have_peers, peers_of_peers}
use Rattle.gq_phase.proofs.laws.rounds_meet.Goals as goal

pub returns-clause-meet : goal.returns-clause-meet
returns-clause-meet c = rounds_meet

pub returns-clause-collect : goal.returns-clause-collect
returns-clause-collect c = collect_quorums_end

pub returns-clause-store : goal.returns-clause-store
returns-clause-store c = store_quorums_end

pub returns-clause-up : goal.returns-clause-up
returns-clause-up c = quorums_are_up

pub returns-clause-nobody : goal.returns-clause-nobody
returns-clause-nobody c = nobody_ends

pub returns-clause-more : goal.returns-clause-more
returns-clause-more c = more_still_end

pub returns-clause-grid : goal.returns-clause-grid
returns-clause-grid c = quorums_in_grid

pub returns-clause-peers : goal.returns-clause-peers
returns-clause-peers c = stores_have_peers

pub returns-clause-others : goal.returns-clause-others
returns-clause-others c = peers_of_peers
