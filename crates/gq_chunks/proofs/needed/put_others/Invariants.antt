-- The chunks up to the last one were written.
use Rattle.std.proofs.Common.{◌+◌, ◌-◌, ◌^◌, length, Bool}
use Rattle.gq_depot.specs.Depots.{standing_of}
use Rattle.gq_chunks.specs.Machines.{AllFit}
use Rattle.gq_chunks.specs.Needed.{Wrote, before_number}
use Rattle.gq_chunks.proofs.needed.put_others.Given as goal

abbrev pub invariant-loop-number : goal.invariant-loop-number
invariant-loop-number l = (lacks : Bool) → AllFit (standing_of l.depot) → Wrote l.plan l.tenant (length l.depot.stock.sessions.items) l.fn.facts.items l.facts.items (before_number (standing_of l.depot) lacks l.place 1) (before_number (standing_of l.depot) lacks l.place (l.last + 1))

abbrev pub decreases-loop-number : goal.decreases-loop-number
decreases-loop-number l = 2 ^ 64 - l.last
