use Rattle.std.proofs.Common.{◌<◌, length, arith}
use Rattle.gq_chunks.specs.Having.{chunks_of}
use Rattle.gq_chunks.proofs.Cleaned.{moved_none, read_one, same_site}
use Rattle.gq_chunks.proofs.machine.ChunkMachine.read_next.Goals as goal

pub returns-in-Ok-clause-read : goal.returns-in-Ok-clause-read
returns-in-Ok-clause-read g c text =
    let m = c.args.self.now in
    let n = c.check.new.self in
    let within : c.in-Some.spot.tenant < length m.depots.depots.items = omega (arith, c.if-spot-len.false, c.len.ensures) in
    read_one (chunks_of g.S.Shelf.noted m) (chunks_of g.S.Shelf.noted n) c.in-Some.spot.tenant text within c.check.ensures.depots
    (same_site (chunks_of g.S.Shelf.noted m) (chunks_of g.S.Shelf.noted n) c.check.ensures.plan c.check.ensures.node c.check.ensures.lost c.check.ensures.losses c.check.ensures.depots) c.check.ensures.goes_on c.check.ensures.puts_stay
