use Rattle.std.proofs.Common.{arith}
use Rattle.gq_keeper.proofs.Finding.{looking_none, looking_more, looked_begins, looked_last, ends_at}
use Rattle.gq_keeper.proofs.starting.find.Goals as goal

pub loop-body-init : goal.loop-body-init
loop-body-init c = looking_none _ _ (grind arith)

pub loop-body-preserved : goal.loop-body-preserved
loop-body-preserved c =
    looking_more c.args.text.now _ c.in-Some.body.now c.in-Some.after.now c.loop-body.number _ _ _ _ c.loop-body.invariant
    (record { read = rw c.in-Some.is at c.in_ok-body.ensures.batches; is = rw c.in-Some.is at c.in_ok-body.ensures.text; batch = rw c.in-Some.is at c.in_ok-body.ensures.lines })
    (omega arith) (omega arith) c.begins_with-begins.ensures.first c.begins_with-begins.ensures.later c.later_plan-last.ensures

pub returns-clause-ends : goal.returns-clause-ends
returns-clause-ends c = ends_at c.args.text.now _ _ c.loop-body.invariant.taking (rw c.in_default.is at c.in_ok-body.ensures.batches)

pub returns-clause-begins : goal.returns-clause-begins
returns-clause-begins c = looked_begins c.args.text.now _ _ _ _ c.loop-body.invariant (rw c.in_default.is at c.in_ok-body.ensures.batches)

pub returns-clause-last : goal.returns-clause-last
returns-clause-last c = looked_last c.args.text.now _ _ _ _ c.loop-body.invariant (rw c.in_default.is at c.in_ok-body.ensures.batches)
