-- What the line is is what was read of it, and chunks were moved before.
use Rattle.std.proofs.Common.{◌≡◌, ◌∙◌, ℕ, List, length, sym, ap, subst}
use Rattle.gq_desk.specs.CheckedPlan.{CheckedPlan}
use Rattle.gq_depot.specs.declared.depot.Depot.{Depot}
use Rattle.gq_chunks.specs.Coming.{coming, coming_of, IsWithin}
use Rattle.gq_chunks.specs.Having.{chunks_of}
use Rattle.gq_chunks.specs.Machines.{chunks}
use Rattle.gq_chunks.proofs.Taken.{ok_by_coming, err_refused}
use Rattle.gq_chunks.proofs.machine.ChunkMachineMachine.take.Goals as goal

pub take_came-requires-clause-tenant : goal.take_came-requires-clause-tenant
take_came-requires-clause-tenant g c = subst (λ (plan : CheckedPlan). IsWithin (length plan.rows) c.in_ok-came.came) (sym c.in_ok-clean_before.ensures.plan) c.in_ok-came.ensures.tenant

pub take_came-requires-clause-there : goal.take_came-requires-clause-there
take_came-requires-clause-there g c =
    subst (λ (tenants : ℕ). IsWithin tenants c.in_ok-came.came) (ap (λ (depots : List Depot). length depots) c.as_slice-tenants.ensures.value ∙ sym c.in_ok-clean_before.ensures.tenants) c.in_ok-came.ensures.there

pub returns-clause-takes : goal.returns-clause-takes
returns-clause-takes g c =
    let m = c.args.self.now in
    let n = c.clean_before.new.self in
    ok_by_coming c.take_came.result (λ m. chunks_of g.S.Shelf.noted m) m n c.take_came.new.self (coming c.in_ok-came.came) c.args.line.now c.args.facts.now.items c.clean_before.new.facts.items c.take_came.new.facts.items c.args.told.now.items c.take_came.new.told.items
    (sym (ap (λ (n : ℕ). coming_of m.plan m.node m.lost n c.args.line.now) (ap (λ (depots : List Depot). length depots) c.as_slice-tenants.ensures.value)) ∙ sym c.in_ok-came.ensures.came)
    c.in_ok-clean_before.ensures.moves c.take_came.ensures.took

pub returns-clause-refused : goal.returns-clause-refused
returns-clause-refused g c = err_refused c.take_came.result (g.S.Shelf.noted c.args.self.now.depots.shelf) (g.S.Shelf.noted c.clean_before.new.self.depots.shelf) (g.S.Shelf.noted c.take_came.new.self.depots.shelf) c.in_ok-clean_before.ensures.rises c.take_came.ensures.refused
