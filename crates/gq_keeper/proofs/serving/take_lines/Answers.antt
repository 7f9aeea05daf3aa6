use Rattle.std.proofs.Common.{length, refl, arith, inl, inr, ap}
use Rattle.std.proofs.lemmas.Bool.{le-leb, lt-leb}
use Rattle.gq_keeper.proofs.Running.{took_none, took_past, took_more, less_behind}
use Rattle.gq_keeper.proofs.serving.take_lines.Goals as goal

pub loop-line-init : goal.loop-line-init
loop-line-init g c = record {
  took = took_none c.args.longest c.args.most g.M.Machine.steps c.args.machine.now c.args.text.now c.args.facts.now.items c.args.told.now.items c.requires.facts c.requires.told;
  few_facts = omega (arith, ap length c.requires.facts, c.requires.some);
  few_told = omega (arith, ap length c.requires.told, c.requires.some);
  on = inl refl;
}

pub loop-line-preserved-then-line-longest : goal.loop-line-preserved-then-line-longest
loop-line-preserved-then-line-longest g c = record {
  took = took_past c.args.longest c.args.most g.M.Machine.steps _ _ _ _ c.in-Some.line.now c.in-Some.after.now _ _ c.loop-line.invariant.took c.in-Some.ensures.text c.in-Some.ensures.one (lt-leb _ c.args.longest (omega arith));
  few_facts = c.loop-line.invariant.few_facts;
  few_told = c.loop-line.invariant.few_told;
  on = inr (less_behind _ _ c.in-Some.line.now c.in-Some.after.now c.loop-line.invariant.on c.in-Some.ensures.text);
}

pub returns-then-is_enough-clause-took : goal.returns-then-is_enough-clause-took
returns-then-is_enough-clause-took g c =
    took_more c.args.longest c.args.most g.M.Machine.steps _ _ _ _ _ c.in-Some.line.now c.in-Some.after.now _ _ _ _ c.loop-line.invariant.took c.loop-line.invariant.few_facts c.loop-line.invariant.few_told c.in-Some.ensures.text c.in-Some.ensures.one
    (le-leb _ c.args.longest (omega arith)) c.in_ok-take.ensures

pub returns-then-is_enough-clause-on : goal.returns-then-is_enough-clause-on
returns-then-is_enough-clause-on g c = inr (less_behind _ _ c.in-Some.line.now c.in-Some.after.now c.loop-line.invariant.on c.in-Some.ensures.text)

pub loop-line-preserved : goal.loop-line-preserved
loop-line-preserved g c = record {
  took = took_more c.args.longest c.args.most g.M.Machine.steps _ _ _ _ _ c.in-Some.line.now c.in-Some.after.now _ _ _ _ c.loop-line.invariant.took c.loop-line.invariant.few_facts c.loop-line.invariant.few_told c.in-Some.ensures.text c.in-Some.ensures.one
      (le-leb _ c.args.longest (omega arith)) c.in_ok-take.ensures;
  few_facts = omega (arith, c.is_enough.ensures.facts c.if-is_enough.false, ap length c.as_slice.ensures.value);
  few_told = omega (arith, c.is_enough.ensures.told c.if-is_enough.false, ap length c.as_slice-in-Some.ensures.value);
  on = inr (less_behind _ _ c.in-Some.line.now c.in-Some.after.now c.loop-line.invariant.on c.in-Some.ensures.text);
}
