use Rattle.std.proofs.Common.{List, length, ap, sym, subst, ◌∙◌}
use Rattle.gq_depot.specs.declared.depot.Depot.{Depot}
use Rattle.gq_chunks.specs.Having.{chunks_of}
use Rattle.gq_chunks.specs.Machines.{chunks, AreSound}
use Rattle.gq_chunks.specs.Needed.{WroteTenants}
use Rattle.gq_chunks.proofs.Needing.{needs_of}
use Rattle.gq_chunks.proofs.machine.ChunkMachineLasting.put_needed.Goals as goal

pub returns : goal.returns
returns g c plan of =
    let m = c.args.self.now in
    needs_of (λ m. chunks_of g.S.Shelf.noted m) plan m c.args.facts.now.items _ of
    (subst (λ (depots : List Depot). WroteTenants (chunks m.plan m.node m.lost m.depots.losses depots (g.S.Shelf.noted m.depots.shelf)) (length depots) c.args.facts.now.items c.put_tenants.new.facts.items) c.as_slice.ensures.value
    (c.in_ok-put_tenants.ensures m.lost m.depots.losses (g.S.Shelf.noted m.depots.shelf) (ap (λ (depots : List Depot). length depots) c.as_slice.ensures.value ∙ of.tenants) (subst (AreSound m.plan) (sym c.as_slice.ensures.value) of.sound)))
