use Rattle.std.proofs.Common.{sym, subst}
use Rattle.gq_depot.specs.Seeking.{sought_of, AreAsks}
use Rattle.gq_chunks.specs.Having.{chunks_of}
use Rattle.gq_chunks.proofs.Taken.{on_ok, asks_none, tick_waits, tick_asks, tick_ends}
use Rattle.gq_chunks.proofs.machine.ChunkMachine.tick.Goals as goal

pub returns-in_default-clause-took : goal.returns-in_default-clause-took
returns-in_default-clause-took g c =
    let m = c.args.self.now in
    let n = c.turn.new.self in
    tick_waits (chunks_of g.S.Shelf.noted m) (chunks_of g.S.Shelf.noted n) 0 c.args.facts.now.items c.args.told.now.items c.args.told.now.items c.turn.ensures.same (asks_none (chunks_of g.S.Shelf.noted n) 0 c.args.told.now.items)

pub returns-then-ends-clause-took : goal.returns-then-ends-clause-took
returns-then-ends-clause-took g c =
    let m = c.args.self.now in
    let n = c.turn.new.self in
    let k = c.fill.new.self in
    on_ok c.fill.result (tick_ends (chunks_of g.S.Shelf.noted m) (chunks_of g.S.Shelf.noted n) (chunks_of g.S.Shelf.noted k) c.in-Some.tenant c.args.facts.now.items c.fill.new.facts.items c.args.told.now.items c.turn.ensures.same) c.fill.ensures.done

pub returns-clause-took : goal.returns-clause-took
returns-clause-took g c =
    let m = c.args.self.now in
    let n = c.turn.new.self in
    let sought = sought_of n.search.seeking in
    tick_waits (chunks_of g.S.Shelf.noted m) (chunks_of g.S.Shelf.noted n) c.in-Some.tenant c.args.facts.now.items c.args.told.now.items c.put_asks.new.told.items c.turn.ensures.same
    (c.in_ok-put_asks.ensures sought (subst (AreAsks sought) (sym c.as_slice.ensures.value) c.in_ok-ends.ensures.asks))

pub returns-then-not-ends-clause-took : goal.returns-then-not-ends-clause-took
returns-then-not-ends-clause-took g c =
    let m = c.args.self.now in
    let n = c.turn.new.self in
    let k = c.ask_for_damaged.new.self in
    tick_asks (chunks_of g.S.Shelf.noted m) (chunks_of g.S.Shelf.noted n) (chunks_of g.S.Shelf.noted k) c.args.facts.now.items c.args.told.now.items c.ask_for_damaged.new.told.items c.turn.ensures.same c.ask_for_damaged.ensures.same c.in_ok-ask_for_damaged.ensures.asks
