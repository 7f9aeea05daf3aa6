use Rattle.std.proofs.Common.{sym, subst, List, ℕ}
use Rattle.gq_keeper.specs.Runs.{Takes}
use Rattle.std.specs.Prelude.{OnOk, []}
use Rattle.gq_chunks.specs.Having.{chunks_of}
use Rattle.gq_chunks.specs.Machines.{Chunks, SaidBy}
use Rattle.gq_chunks.specs.PeerLines.{saying_of}
use Rattle.gq_chunks.specs.declared.peer_line.PeerLine.{PeerLine}
use Rattle.gq_chunks.proofs.machine.ChunkMachine.hear.Goals as goal

pub returns-in-Gives-clause-took : goal.returns-in-Gives-clause-took
returns-in-Gives-clause-took g c =
    let m = c.args.self.now in
    let n = c.hear_content.new.self in
    subst (λ (line : PeerLine). OnOk c.hear_content.result (Takes (λ (old : Chunks) (came : List ℕ) (facts : List (List ℕ)) (told : List ℕ) (new : Chunks). SaidBy (saying_of line) old c.args.tenant c.args.from facts told new)
    (chunks_of g.S.Shelf.noted m) [] c.args.facts.now.items c.hear_content.new.facts.items c.args.told.now.items c.hear_content.new.told.items
    (chunks_of g.S.Shelf.noted n))) (sym c.in-Gives.is) c.hear_content.ensures.took
