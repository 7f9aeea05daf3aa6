use Rattle.gq_chunks.specs.Having.{chunks_of}
use Rattle.gq_chunks.proofs.Cleaned.{moved_none, moved_more}
use Rattle.gq_chunks.proofs.machine.ChunkMachine.move_some.Goals as goal

pub loop-init : goal.loop-init
loop-init g c = let m = c.args.self.now in moved_none (chunks_of g.S.Shelf.noted m) c.args.facts.now.items

pub loop-preserved : goal.loop-preserved
loop-preserved g c =
    let m = c.args.self.now in
    let l = c.loop.self in
    let n = c.move_next.new.self in
    moved_more (chunks_of g.S.Shelf.noted m) (chunks_of g.S.Shelf.noted l) (chunks_of g.S.Shelf.noted n) c.args.facts.now.items c.loop.facts.items c.move_next.new.facts.items c.loop.invariant c.in-Ok-Some.ensures.moved

pub returns-in-Ok-None-clause-moved : goal.returns-in-Ok-None-clause-moved
returns-in-Ok-None-clause-moved g c =
    let m = c.args.self.now in
    let l = c.loop.self in
    let n = c.move_next.new.self in
    moved_more (chunks_of g.S.Shelf.noted m) (chunks_of g.S.Shelf.noted l) (chunks_of g.S.Shelf.noted n) c.args.facts.now.items c.loop.facts.items c.move_next.new.facts.items c.loop.invariant c.in-Ok-None.ensures.moved
