use Rattle.gq_chunks.specs.Having.{chunks_of}
use Rattle.gq_chunks.proofs.Taken.{on_ok, asks_some}
use Rattle.gq_chunks.proofs.machine.ChunkMachine.put_asks.Goals as goal

pub returns : goal.returns
returns g c sought are =
    let m = c.args.self.now in
    on_ok c.put_ask_lines.result (asks_some (chunks_of g.S.Shelf.noted m) c.args.tenant c.in-Some.to c.args.told.now.items _ sought c.args.asks.now c.in-Some.ensures are) c.put_ask_lines.ensures
