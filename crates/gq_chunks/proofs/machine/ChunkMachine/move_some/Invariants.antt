-- Chunks were moved so far, and their facts stand there.
use Rattle.gq_chunks.specs.Having.{chunks_of}
use Rattle.gq_chunks.specs.Machines.{MovedSoFar}
use Rattle.gq_chunks.proofs.machine.ChunkMachine.move_some.Given as goal

abbrev pub invariant-loop : goal.invariant-loop
invariant-loop g l = MovedSoFar (chunks_of g.S.Shelf.noted l.fn.self) l.fn.facts.items l.facts.items (chunks_of g.S.Shelf.noted l.self)
