use Rattle.gq_chunks.specs.Having.{chunks_of}
use Rattle.gq_chunks.proofs.Cleaned.{moved_one}
use Rattle.gq_chunks.proofs.machine.ChunkMachine.move_chunk.Goals as goal

pub returns-clause-moved : goal.returns-clause-moved
returns-clause-moved g c =
    let m = c.args.self.now in
    let n = c.shelved.new.self in
    moved_one (chunks_of g.S.Shelf.noted m) (chunks_of g.S.Shelf.noted n) c.args.tenant c.in_ok-fact.fact c.args.facts.now.items c.put_fact.new.facts.items c.in_ok-fact.ensures.done c.requires.there c.in_ok-put_fact.ensures.stands c.in_ok-put_fact.ensures.kept
