-- Each of them is left.
use Rattle.std.proofs.Common.{◌≡◌, ◌-◌, length}
use Rattle.gq_depot.specs.Seeking.{sought_of, AreAsks}
use Rattle.gq_depot.proofs.seeking.Seeking.ask_more.Given as goal

abbrev pub invariant-loop-asks : goal.invariant-loop-asks
invariant-loop-asks l = (sought_of l.self ≡ sought_of l.fn.self) × AreAsks (sought_of l.self) l.asks.items

abbrev pub decreases-loop-asks : goal.decreases-loop-asks
decreases-loop-asks l = length l.self.left.items - l.self.asked
