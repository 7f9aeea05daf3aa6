use Rattle.std.proofs.lemmas.Result.{err_from_is_err_and}
use Rattle.std.proofs.Common.{arith}
use Rattle.gq_keeper.proofs.Finding.{recalling_none, recalling_more, recalled_all, batch_refused}
use Rattle.gq_keeper.specs.LeavingOut.{RecallsBut, readable_but}
use Rattle.gq_keeper.proofs.LeavingOut.{reads_on_but}
use Rattle.gq_keeper.proofs.starting.recall_batches.Goals as goal

pub loop-body-init : goal.loop-body-init
loop-body-init g c = recalling_none (RecallsBut (g.F.LeavesOut.leaves_out c.args.left_out.now) g.M.Machine.recalls) _ _

pub loop-body-preserved : goal.loop-body-preserved
loop-body-preserved g c =
    recalling_more (RecallsBut (g.F.LeavesOut.leaves_out c.args.left_out.now) g.M.Machine.recalls) _ _ _ c.args.text.now _ c.in-Some.body.now c.in-Some.after.now c.loop-body.number c.loop-body.invariant
    (record { read = rw c.in-Some.is at c.in_ok-body.ensures.batches; is = rw c.in-Some.is at c.in_ok-body.ensures.text; batch = rw c.in-Some.is at c.in_ok-body.ensures.lines })
    (omega arith) (omega arith) c.in_ok-recall_lines.ensures.recalled

pub returns : goal.returns
returns g c = record { recalled = recalled_all (RecallsBut (g.F.LeavesOut.leaves_out c.args.left_out.now) g.M.Machine.recalls) _ _ _ _ _ c.loop-body.invariant (rw c.in_default.is at c.in_ok-body.ensures.batches); refused = tt }

-- the batch that is refused is one of the journal
pub returns-in_err-recall_lines-clause-refused : goal.returns-in_err-recall_lines-clause-refused
returns-in_err-recall_lines-clause-refused g c =
    let p = err_from_is_err_and c.from_residual-in_err-recall_lines.result c.from_residual-in_err-recall_lines.ensures.1 in
    rw (p.1, p.2) (batch_refused (RecallsBut (g.F.LeavesOut.leaves_out c.args.left_out.now) g.M.Machine.recalls) (readable_but (g.F.LeavesOut.leaves_out c.args.left_out.now) g.M.Machine.readable) (reads_on_but (g.F.LeavesOut.leaves_out c.args.left_out.now) g.M.Machine.recalls g.M.Machine.readable g.met.M.Machine.reads_on) _ _ c.args.text.now _ c.in-Some.body.now c.in-Some.after.now c.loop-body.number _ c.loop-body.invariant
    (record { read = rw c.in-Some.is at c.in_ok-body.ensures.batches; is = rw c.in-Some.is at c.in_ok-body.ensures.text; batch = rw c.in-Some.is at c.in_ok-body.ensures.lines })
    c.in_err-recall_lines.ensures.refused)
