use Rattle.std.proofs.Common.{arith}
use Rattle.gq_ledger.specs.Ledgers.{book_of}
use Rattle.gq_depot.specs.declared.answer.ListedChunk.{ListedChunk}
use Rattle.gq_depot.specs.declared.limits.TheConstants.{MOST_LISTED}
use Rattle.gq_depot.proofs.Standing.{is_next, listed_more}
use Rattle.gq_depot.proofs.asked.listed.Goals as goal

pub loop-number-preserved : goal.loop-number-preserved
loop-number-preserved c =
    let next : ListedChunk = record { number = c.in-Some.number; size = c.len-in-Some.result } in
    listed_more (book_of c.args.session.now.chunks) c.args.after c.loop-number.last MOST_LISTED c.loop-number.chunks.items c.grow.new.self.items next c.in_ok-grow.ensures.items c.loop-number.invariant.0 c.loop-number.invariant.1
    (is_next (book_of c.args.session.now.chunks) c.loop-number.last c.in-Some.number c.in-Some.chunk.now c.len-in-Some.result c.in-Some.ensures.above c.in-Some.ensures.there c.len-in-Some.ensures c.in-Some.ensures.least)
    c.loop-number.invariant.2 (λ same. omega (arith, same, c.len.ensures, c.if-len-eq-MOST_LISTED.false))
