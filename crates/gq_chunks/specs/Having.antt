-- What a machine of chunks has, by what was noted of its shelf.
use Rattle.gq_shelf.specs.Notes.{Noted}
use Rattle.gq_chunks.specs.Machines.{Chunks, chunks}
use Rattle.gq_chunks.specs.declared.machine.ChunkMachine.{ChunkMachine}

abbrev pub chunks_of : {S : Type 0} → (noted : S → Noted) → ChunkMachine S → Chunks
chunks_of noted m = chunks m.plan m.node m.lost m.depots.losses m.depots.depots.items (noted m.depots.shelf)
