use Rattle.std.proofs.Common.{sym, subst}
use Rattle.gq_depot.specs.Seeking.{sought_of, AreAsks}
use Rattle.gq_chunks.proofs.machine.ChunkMachine.settled.Goals as goal

pub returns-clause-asks : goal.returns-clause-asks
returns-clause-asks g c =
    let sought = sought_of c.settle.new.self.seeking in
    c.put_asks.ensures sought (subst (AreAsks sought) (sym c.as_slice.ensures.value) c.in_ok-asks.ensures.asks)
