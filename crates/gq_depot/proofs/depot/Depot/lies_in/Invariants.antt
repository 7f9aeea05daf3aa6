-- In no session so far does one lie there.
use Rattle.std.proofs.Common.{length, ◌-◌}
use Rattle.gq_ledger.specs.Ledgers.{book_of}
use Rattle.gq_stock.specs.Segments.{NoneIn}
use Rattle.gq_depot.proofs.Segments.{OfFirst}
use Rattle.gq_depot.proofs.depot.Depot.lies_in.Given as goal

abbrev pub invariant-loop-place : goal.invariant-loop-place
invariant-loop-place l = OfFirst (λ session. NoneIn l.segment (book_of session.chunks)) l.self.stock.sessions.items l.place

abbrev pub decreases-loop-place : goal.decreases-loop-place
decreases-loop-place l = length l.self.stock.sessions.items - l.place
