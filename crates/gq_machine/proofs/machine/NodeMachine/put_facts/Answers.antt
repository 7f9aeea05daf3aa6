use Rattle.std.proofs.Common.{◌∙◌, ◌++◌, subst, ap}
use Rattle.gq_desk.specs.CheckedPlan.{CheckedPlan}
use Rattle.gq_node.specs.declared.output.Fact.{Fact}
use Rattle.gq_node.specs.Recalling.{own_fact}
use Rattle.gq_lines.proofs.Extending.{one_more}
use Rattle.gq_facts.specs.Facts.{fact_text}
use Rattle.gq_facts.specs.Laws.{FitsOwn}
use Rattle.gq_machine.proofs.Fitting.{fits_more}
use Rattle.gq_machine.proofs.machine.NodeMachine.put_facts.Goals as goal

pub loop-fact-preserved : goal.loop-fact-preserved
loop-fact-preserved c =
    let plan = c.args.self.now.node.tables.plan in
    let fact = c.fact-item.result in
    record {
      text = one_more (fact_text plan) c.args.facts.now.items c.loop-fact.facts.items c.put_fact.new.out.items c.args.needed.now c.loop-fact.fact-index fact c.loop-fact-test.true c.fact-item.is c.loop-fact.invariant.text
          (c.in_ok-put_fact.ensures.ok ∙ ap (λ (p : CheckedPlan). c.loop-fact.facts.items ++ fact_text p fact) c.plan.ensures);
      fit = fits_more plan c.args.needed.now c.loop-fact.fact-index fact c.loop-fact-test.true c.loop-fact.invariant.fit c.requires (subst (λ (f : Fact). FitsOwn (own_fact f)) c.fact-item.is c.fact_fits.ensures);
    }
