use Rattle.std.proofs.Common.{Option, sym, subst}
use Rattle.std.specs.Prelude.{IfSome}
use Rattle.gq_depot.specs.Seeking.{sought_of, AreAsks}
use Rattle.gq_chunks.specs.Having.{chunks_of}
use Rattle.gq_chunks.specs.declared.mending.Call.{Call}
use Rattle.gq_chunks.proofs.Taken.{on_ok, asks_of_one}
use Rattle.gq_chunks.proofs.machine.ChunkMachine.ask_for_damaged.Goals as goal

pub returns-clause-asks : goal.returns-clause-asks
returns-clause-asks g c =
    let m = c.args.self.now in
    let sought = sought_of c.in-Some.call.seeking in
    let are : AreAsks sought c.in-Some.call.asks.items = subst (λ (o : Option Call). IfSome o (λ it. AreAsks (sought_of it.seeking) it.asks.items)) c.in-Some.is c.in_ok-call.ensures in
    on_ok c.put_asks.result (asks_of_one (chunks_of g.S.Shelf.noted m) c.in-Some-tenant_at.tenant c.args.told.now.items c.put_asks.new.told.items) (c.put_asks.ensures sought (subst (AreAsks sought) (sym c.as_slice.ensures.value) are))
