-- The plan is made of the setup and the number.
use Rattle.std.proofs.Common.{◌≡◌, ◌∙◌, true, sym, subst, ap}
use Rattle.std.specs.Prelude.{Ok}
use Rattle.gq_journal.specs.Batches.{whole_lines}
use Rattle.gq_setup.specs.Setups.{Setup, has_node}
use Rattle.gq_setup.specs.Texts.{node_text, OpensFor}
use Rattle.gq_service.proofs.NewNodes.{some_of}
use Rattle.gq_service.proofs.this_node.ThisNode.new.Goals as goal

pub invariant_of-result : goal.invariant_of-result
invariant_of-result c =
    let setup : c.in-Some.plan.setup ≡ c.args.setup = some_of c.in_ok-plan.field-0 c.in-Some.plan _ c.in-Some.is c.in_ok-plan.ensures.setup in
    record {
      of_plan = subst (λ (s : Setup). has_node s c.in_ok-node.node ≡ true) (sym setup) c.in_ok-node.ensures.of_plan;
      text = some_of c.in_ok-plan.field-0 c.in-Some.plan _ c.in-Some.is c.in_ok-plan.ensures.text ∙ ap (node_text c.in_ok-node.node) (sym setup);
      back = some_of c.in_ok-plan.field-0 c.in-Some.plan _ c.in-Some.is c.in_ok-plan.ensures.back ∙ ap (λ (s : Setup). Ok s) (sym setup);
      volumes = subst (OpensFor (whole_lines c.in-Some.plan.text.items)) (sym setup) (some_of c.in_ok-plan.field-0 c.in-Some.plan _ c.in-Some.is c.in_ok-plan.ensures.volumes);
      is_plan = some_of c.in_ok-plan.field-0 c.in-Some.plan _ c.in-Some.is c.in_ok-plan.ensures.is;
    }

pub returns-in-Some-clause-of_plan : goal.returns-in-Some-clause-of_plan
returns-in-Some-clause-of_plan c = subst (λ n. has_node c.args.setup n ≡ true) c.in_ok-node.ensures.same c.in_ok-node.ensures.of_plan
