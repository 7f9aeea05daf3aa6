-- None so far lies in the segment.
use Rattle.std.proofs.Common.{◌-◌, ◌^◌}
use Rattle.gq_ledger.specs.Ledgers.{book_of}
use Rattle.gq_stock.proofs.Segments.{NoneUpTo}
use Rattle.gq_stock.proofs.session.Session.lies_in.Given as goal

abbrev pub invariant-loop-number : goal.invariant-loop-number
invariant-loop-number l = NoneUpTo l.segment l.last (book_of l.self.chunks)

abbrev pub decreases-loop-number : goal.decreases-loop-number
decreases-loop-number l = 2 ^ 64 - l.last
