use Rattle.std.proofs.Common.{sym, subst}
use Rattle.gq_chunks.specs.Having.{chunks_of}
use Rattle.gq_chunks.specs.Machines.{Chunks, MovedSoFar}
use Rattle.gq_chunks.proofs.Cleaned.{moved_none}
use Rattle.gq_chunks.proofs.machine.ChunkMachine.move_next.Goals as goal

pub returns-in_default-clause-moved : goal.returns-in_default-clause-moved
returns-in_default-clause-moved g c =
    let m = c.args.self.now in
    subst (λ (z : Chunks). MovedSoFar (chunks_of g.S.Shelf.noted m) c.args.facts.now.items c.args.facts.now.items z) (sym c.next_to_move.ensures.same) (moved_none (chunks_of g.S.Shelf.noted m) c.args.facts.now.items)
