-- Each of them is left.
use Rattle.gq_depot.specs.Seeking.{sought_of, AreAsks}
use Rattle.gq_depot.proofs.seeking.Seeking.ask_again.Given as goal

abbrev pub invariant-loop-place : goal.invariant-loop-place
invariant-loop-place l = AreAsks (sought_of l.self) l.asks.items
