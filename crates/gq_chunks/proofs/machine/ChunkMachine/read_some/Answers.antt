use Rattle.gq_chunks.specs.Having.{chunks_of}
use Rattle.std.proofs.Common.{[]}
use Rattle.gq_chunks.proofs.Cleaned.{moved_none, moved_more}
use Rattle.gq_chunks.proofs.Taken.{refused_on}
use Rattle.gq_chunks.proofs.machine.ChunkMachine.read_some.Goals as goal

pub loop-init : goal.loop-init
loop-init g c text = let m = c.args.self.now in moved_none (chunks_of g.S.Shelf.noted m) text

pub loop-preserved : goal.loop-preserved
loop-preserved g c text =
    let m = c.args.self.now in
    let l = c.loop.self in
    let n = c.read_next.new.self in
    moved_more (chunks_of g.S.Shelf.noted m) (chunks_of g.S.Shelf.noted l) (chunks_of g.S.Shelf.noted n) text text text (c.loop.invariant text) (c.in-Ok-true.ensures.read text)

pub returns-in-Ok-false-clause-read : goal.returns-in-Ok-false-clause-read
returns-in-Ok-false-clause-read g c text =
    let m = c.args.self.now in
    let l = c.loop.self in
    let n = c.read_next.new.self in
    moved_more (chunks_of g.S.Shelf.noted m) (chunks_of g.S.Shelf.noted l) (chunks_of g.S.Shelf.noted n) text text text (c.loop.invariant text) (c.in-Ok-false.ensures.read text)

pub returns-in-Err-clause-refused : goal.returns-in-Err-clause-refused
returns-in-Err-clause-refused g c = refused_on c.in-Err.fault (g.S.Shelf.noted c.args.self.now.depots.shelf) (g.S.Shelf.noted c.loop.self.depots.shelf) (g.S.Shelf.noted c.read_next.new.self.depots.shelf) (c.loop.invariant []).puts_stay.refused c.in-Err.ensures.refused
