use Rattle.std.proofs.Common.{length}
use Rattle.gq_chunks.proofs.Needing.{wrote_on, wrote_as, gap_to, end_at}
use Rattle.gq_chunks.proofs.needed.put_others.Goals as goal

pub loop-number-preserved : goal.loop-number-preserved
loop-number-preserved c lacks fit =
    wrote_on c.args.plan.now c.args.tenant (length c.args.depot.now.stock.sessions.items) c.args.facts.now.items c.loop-number.facts.items c.put_chunk.new.facts.items _ _ _
    (wrote_as c.args.plan.now c.args.tenant (length c.args.depot.now.stock.sessions.items) c.args.facts.now.items c.loop-number.facts.items _ _ _ (c.loop-number.invariant lacks fit)
    (gap_to c.args.depot.now lacks c.args.place c.loop-number.last c.in-Some.number c.index.result.now c.requires.place c.index.ensures c.in-Some.ensures.above c.in-Some.ensures.least))
    (c.in_ok-put_chunk.ensures lacks fit)

pub returns : goal.returns
returns c lacks fit =
    wrote_as c.args.plan.now c.args.tenant (length c.args.depot.now.stock.sessions.items) c.args.facts.now.items c.loop-number.facts.items _ _ _ (c.loop-number.invariant lacks fit)
    (end_at c.args.depot.now lacks c.args.place c.loop-number.last c.index.result.now c.requires.place c.index.ensures c.in_default.ensures.none)
