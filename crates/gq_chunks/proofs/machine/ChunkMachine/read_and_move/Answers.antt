use Rattle.gq_chunks.specs.Having.{chunks_of}
use Rattle.gq_chunks.proofs.Cleaned.{moved_more}
use Rattle.gq_chunks.proofs.Taken.{on_ok, err_refused}
use Rattle.gq_chunks.proofs.machine.ChunkMachine.read_and_move.Goals as goal

pub returns-clause-moved : goal.returns-clause-moved
returns-clause-moved g c =
    let m = c.args.self.now in
    let l = c.read_some.new.self in
    let n = c.move_some.new.self in
    on_ok c.move_some.result (moved_more (chunks_of g.S.Shelf.noted m) (chunks_of g.S.Shelf.noted l) (chunks_of g.S.Shelf.noted n) c.args.facts.now.items c.args.facts.now.items c.move_some.new.facts.items (c.in_ok-read_some.ensures.read c.args.facts.now.items)) c.move_some.ensures.moved

pub returns-clause-refused : goal.returns-clause-refused
returns-clause-refused g c = err_refused c.move_some.result (g.S.Shelf.noted c.args.self.now.depots.shelf) (g.S.Shelf.noted c.read_some.new.self.depots.shelf) (g.S.Shelf.noted c.move_some.new.self.depots.shelf) (c.in_ok-read_some.ensures.read c.args.facts.now.items).puts_stay.refused c.move_some.ensures.refused
