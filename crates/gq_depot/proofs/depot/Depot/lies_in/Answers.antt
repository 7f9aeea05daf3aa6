use Rattle.std.proofs.Common.{arith}
use Rattle.gq_ledger.specs.Ledgers.{book_of}
use Rattle.gq_stock.specs.Segments.{NoneIn}
use Rattle.gq_depot.proofs.Segments.{one_more, of_all}
use Rattle.gq_depot.proofs.depot.Depot.lies_in.Goals as goal

pub returns-then-lies_in-clause-some : goal.returns-then-lies_in-clause-some
returns-then-lies_in-clause-some c is = record { place = c.loop-place.place; session = c.session.result.now; there = c.session.ensures; some = c.lies_in.ensures.some c.if-lies_in.true }

pub loop-place-preserved : goal.loop-place-preserved
loop-place-preserved c = one_more (λ session. NoneIn c.args.segment (book_of session.chunks)) c.args.self.now.stock.sessions.items c.loop-place.place c.session.result.now c.session.ensures (c.lies_in.ensures.none c.if-lies_in.false) c.loop-place.invariant

pub returns-clause-none : goal.returns-clause-none
returns-clause-none c is = of_all (λ session. NoneIn c.args.segment (book_of session.chunks)) c.args.self.now.stock.sessions.items c.loop-place.place (omega (arith, c.loop-place-test.false, c.len.ensures)) c.loop-place.invariant
