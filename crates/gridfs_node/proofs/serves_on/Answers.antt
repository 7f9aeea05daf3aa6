-- What is durable is what the promise of the output allows.
use Rattle.std.proofs.Common.{◌≡◌, ◌++◌, ℕ, List, [], Option, subst}
use Rattle.gq_chunks.specs.Machines.{Chunks}
use Rattle.gq_keeper.specs.Notes.{Instant, seen_in}
use Rattle.gq_service.specs.Promises.{IsDurableBySome, IsDurableByPlan}
use Rattle.gq_lines.specs.Written.{first_text}
use Rattle.gridfs_node.proofs.serves_on.Goals as goal

-- of the node of this number, and of some input, where nothing was shown before
by_some : {C : Type 0} (has : C → Chunks) (number : ℕ) {input : Option (List ℕ)} {before : List Instant} {synced shown : List ℕ} → before ≡ [] →
    IsDurableByPlan has number input (seen_in before ++ first_text) synced shown → IsDurableBySome has synced shown
by_some has number {input} {before} {synced} {shown} none durable =
    (number, input, subst (λ (instants : List Instant). IsDurableByPlan has number input (seen_in instants ++ first_text) synced shown) none durable)

pub run_node-requires : goal.run_node-requires
run_node-requires g c = record {
  durable = λ synced shown durable. by_some _ c.args.asked.now.number c.new-out.ensures durable;
}
