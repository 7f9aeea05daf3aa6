use Rattle.gq_chunks.specs.Having.{chunks_of}
use Rattle.gq_chunks.proofs.Taken.{on_ok, err_refused}
use Rattle.gq_chunks.proofs.Cleaned.{moves_sure, same_site}
use Rattle.gq_chunks.proofs.machine.ChunkMachine.clean.Goals as goal

pub returns-clause-moves : goal.returns-clause-moves
returns-clause-moves g c =
    let m = c.args.self.now in
    let n = c.do_due.new.self in
    let k = c.make_sure.new.self in
    on_ok c.make_sure.result (moves_sure (chunks_of g.S.Shelf.noted m) (chunks_of g.S.Shelf.noted n) (chunks_of g.S.Shelf.noted k) c.args.facts.now.items c.do_due.new.facts.items c.in_ok-do_due.ensures.moved
    (same_site (chunks_of g.S.Shelf.noted n) (chunks_of g.S.Shelf.noted k) c.make_sure.ensures.plan c.make_sure.ensures.node c.make_sure.ensures.lost c.make_sure.ensures.losses c.make_sure.ensures.depots) c.make_sure.ensures.depots) c.make_sure.ensures.sure

pub returns-clause-refused : goal.returns-clause-refused
returns-clause-refused g c = err_refused c.make_sure.result (g.S.Shelf.noted c.args.self.now.depots.shelf) (g.S.Shelf.noted c.do_due.new.self.depots.shelf) (g.S.Shelf.noted c.make_sure.new.self.depots.shelf) c.in_ok-do_due.ensures.moved.puts_stay.refused c.make_sure.ensures.refused
