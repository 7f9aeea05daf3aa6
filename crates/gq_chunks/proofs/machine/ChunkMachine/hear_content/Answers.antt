use Rattle.std.proofs.Common.{subst}
use Rattle.gq_depot.specs.declared.filling.Filling.TheVariants.{Give}
use Rattle.gq_chunks.specs.Having.{chunks_of}
use Rattle.gq_chunks.specs.Machines.{GivenAs}
use Rattle.gq_chunks.specs.declared.filling.Given.{Given}
use Rattle.gq_chunks.proofs.Taken.{unfed_takes}
use Rattle.gq_chunks.proofs.machine.ChunkMachine.hear_content.Goals as goal

pub returns-in-NoSpace-clause-took : goal.returns-in-NoSpace-clause-took
returns-in-NoSpace-clause-took g c =
    let m = c.args.self.now in
    let n = c.given.new.self in
    unfed_takes (chunks_of g.S.Shelf.noted m) (chunks_of g.S.Shelf.noted n) c.args.tenant (Give c.args.session c.args.number c.args.bytes) c.args.facts.now.items c.args.told.now.items
    (subst (λ (given : Given). GivenAs (chunks_of g.S.Shelf.noted m) c.args.tenant (Give c.args.session c.args.number c.args.bytes) given (chunks_of g.S.Shelf.noted n)) c.in-NoSpace.is c.in_ok-fact.ensures.given)
