-- Contents were read so far, and nothing else was done.
use Rattle.std.proofs.Common.{ℕ, List}
use Rattle.gq_chunks.specs.Having.{chunks_of}
use Rattle.gq_chunks.specs.Machines.{MovedSoFar}
use Rattle.gq_chunks.proofs.machine.ChunkMachine.read_some.Given as goal

abbrev pub invariant-loop : goal.invariant-loop
invariant-loop g l = (text : List ℕ) → MovedSoFar (chunks_of g.S.Shelf.noted l.fn.self) text text (chunks_of g.S.Shelf.noted l.self)
