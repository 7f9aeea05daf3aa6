-- The node that is served is the one that is asked for.
use Rattle.std.proofs.Common.{◌++◌, ℕ, List, Bool, subst, OnOk}
use Rattle.std.specs.Prelude.{Result, Ok, Err, Option}
use Rattle.gq_chunks.specs.Machines.{Chunks}
use Rattle.gq_setup.specs.Setups.{Setup}
use Rattle.gq_lines.specs.Written.{first_text}
use Rattle.gq_chunks.specs.Having.{chunks_of}
use Rattle.gq_service.specs.Promises.{IsDurableByRoom, ServesByRoom, ServesByPlan}
use Rattle.gq_service.proofs.running.run_node.Goals as goal

-- what is served by this plan is so by some
by_plan : {C : Type 0} (has : C → Chunks) (setup : Setup) {T E : Type 0} (r : Result T E) (number : ℕ) (is_new : Bool) (input : Option (List ℕ)) (base shown : List ℕ) →
    OnOk r (ServesByRoom has setup number is_new input base shown) → OnOk r (ServesByPlan has number is_new input base shown)
by_plan has setup (Err e) number is_new input base shown serves = tt
by_plan has setup (Ok x) number is_new input base shown serves = (setup, serves)

pub run_kind-ended-requires : goal.run_kind-ended-requires
run_kind-ended-requires g c = record {
  durable = λ synced shown durable. c.requires.durable synced shown (c.in_ok-node.node.plan.setup, subst (λ (n : ℕ). IsDurableByRoom (chunks_of g.S.Shelf.noted) c.in_ok-node.node.plan.setup n (g.I.Read.remaining c.args.input.now) (g.O.Output.shown c.args.out.now ++ first_text) synced shown) c.in_ok-node.ensures.number durable);
}

pub returns : goal.returns
returns g c = record {
  served = by_plan (chunks_of g.S.Shelf.noted) c.in_ok-node.node.plan.setup c.run_kind-ended.result _ _ _ _ _ (subst (λ (n : ℕ). OnOk c.run_kind-ended.result (ServesByRoom (chunks_of g.S.Shelf.noted) c.in_ok-node.node.plan.setup n c.args.asked.now.is_new (g.I.Read.remaining c.args.input.now) (g.O.Output.shown c.args.out.now ++ first_text) (g.O.Output.shown c.run_kind-ended.new.out))) c.in_ok-node.ensures.number c.run_kind-ended.ensures.served);
}
