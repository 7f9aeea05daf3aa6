use Rattle.std.proofs.Common.{ℕ, List, None, Option, ap, sym, subst, refl, ◌∙◌}
use Rattle.gq_keeper.specs.Runs.{Takes}
use Rattle.gq_depot.specs.declared.request.ChunkRequest.{ChunkRequest}
use Rattle.gq_chunks.specs.Coming.{Coming, Asked, Nothing, coming}
use Rattle.gq_chunks.specs.Having.{chunks_of}
use Rattle.gq_chunks.specs.Machines.{Chunks, StepsBy}
use Rattle.gq_chunks.proofs.Taken.{passed_over, told_bad, as_came}
use Rattle.gq_chunks.proofs.machine.ChunkMachine.take_came.Goals as goal

pub returns-in-Nothing-clause-took : goal.returns-in-Nothing-clause-took
returns-in-Nothing-clause-took g c =
    let m = c.args.self.now in
    as_came Nothing _ (sym (ap coming c.in-Nothing.is)) _ _ _ _ _ _ _
    (passed_over (chunks_of g.S.Shelf.noted m) (chunks_of g.S.Shelf.noted m) c.args.facts.now.items c.args.told.now.items refl)

pub returns-in_ok-put_bad-in-Asked-default-None-clause-took : goal.returns-in_ok-put_bad-in-Asked-default-None-clause-took
returns-in_ok-put_bad-in-Asked-default-None-clause-took g c =
    let m = c.args.self.now in
    as_came (Asked c.in-Asked-default-None.tenant None) _ (sym (ap coming c.in-Asked-default-None.is ∙ ap (λ (r : Option ChunkRequest). Asked c.in-Asked-default-None.tenant r) c.in-Asked-default-None.request-is)) _ _ _ _ _ _ _
    (told_bad (chunks_of g.S.Shelf.noted m) (chunks_of g.S.Shelf.noted m) c.in-Asked-default-None.tenant c.args.facts.now.items c.args.told.now.items c.put_bad.new.told.items refl c.in_ok-put_bad-in-Asked-default-None.ensures)
