use Rattle.gq_depot.specs.declared.filling.Filling.TheVariants.{Raise}
use Rattle.gq_chunks.specs.Having.{chunks_of}
use Rattle.gq_chunks.proofs.Taken.{fed_takes}
use Rattle.gq_chunks.proofs.machine.ChunkMachine.hear_listing.Goals as goal

pub returns-clause-took : goal.returns-clause-took
returns-clause-took g c =
    let m = c.args.self.now in
    let n = c.fill.new.self in
    let k = c.listed.new.self in
    fed_takes (chunks_of g.S.Shelf.noted m) (chunks_of g.S.Shelf.noted n) (chunks_of g.S.Shelf.noted k) c.args.tenant (Raise c.args.session c.args.floor) c.args.facts.now.items c.fill.new.facts.items c.args.told.now.items c.listed.new.told.items
    c.in_ok-fill.ensures.done c.listed.ensures.same c.in_ok-listed.ensures.asks
