use Rattle.gq_chunks.specs.Having.{chunks_of}
use Rattle.gq_chunks.proofs.Taken.{on_ok, waits_takes}
use Rattle.gq_chunks.proofs.machine.ChunkMachine.hear_none.Goals as goal

pub returns-clause-took : goal.returns-clause-took
returns-clause-took g c =
    let m = c.args.self.now in
    let n = c.settled.new.self in
    on_ok c.settled.result (waits_takes (chunks_of g.S.Shelf.noted m) (chunks_of g.S.Shelf.noted n) c.args.tenant c.args.facts.now.items c.args.told.now.items c.settled.new.told.items c.settled.ensures.same) c.settled.ensures.asks
