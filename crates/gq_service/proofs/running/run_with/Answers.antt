-- What is served by a journal.
use Rattle.std.proofs.Common.{◌≡◌, ℕ, List, Bool, true, false, sym, subst, OnOk}
use Rattle.std.specs.Prelude.{Result, Ok, Err, Option}
use Rattle.gq_keeper.specs.Notes.{seen_in}
use Rattle.gq_setup.specs.Setups.{Setup}
use Rattle.gq_service.specs.Kinds.{Kind, kind}
use Rattle.gq_service.specs.Serving.{ServesInput, ServesSomehow, is_its_journal, journal_found}
use Rattle.gq_service.proofs.running.run_with.Goals as goal

-- what is served by a journal that is found is so by one that is its own, where one was to be there
somehow : {M : Type 0} (k : Kind M) {T E : Type 0} (r : Result T E) (setup : Setup) (number : ℕ) (is_new : Bool) (seen : List ℕ) (input : Option (List ℕ)) (base synced shown : List ℕ) →
    OnOk r (ServesInput k setup number (journal_found is_new seen) input base synced shown) → (is_new ≡ false → OnOk r (is_its_journal setup number seen ≡ true)) → OnOk r (ServesSomehow k setup number is_new input base shown)
somehow k (Err e) setup number is_new seen input base synced shown serves its = tt
somehow k (Ok x) setup number is_new seen input base synced shown serves its = record {
  journal = journal_found is_new seen;
  synced = synced;
  serves = serves;
  its = λ old. subst (λ b. is_its_journal setup number (journal_found b seen) ≡ true) (sym old) (its old);
}

pub returns : goal.returns
returns g c = record {
  served = somehow (kind g.M.Machine.steps g.M.Machine.recalls g.M.Machine.readable g.M.Lasting.blank g.M.Lasting.rests g.M.Served.is_new) c.serve_node.result c.args.node.now.plan.setup c.args.node.now.number c.args.asked.now.is_new (seen_in c.in_ok-disk.disk.notes.instants) _ _ _ _ c.serve_node.ensures.served c.serve_node.ensures.its;
}
