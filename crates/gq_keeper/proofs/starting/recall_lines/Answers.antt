use Rattle.std.proofs.lemmas.Result.{err_from_is_err_and}
use Rattle.std.proofs.Common.{sym, ◌∙◌}
use Rattle.gq_journal.specs.Batches.{whole_lines}
use Rattle.gq_keeper.proofs.Finding.{reading_none, reading_more, reading_end, recalls_plan, recalls_facts, line_refused}
use Rattle.gq_keeper.specs.LeavingOut.{RecallsBut, readable_but}
use Rattle.gq_keeper.proofs.LeavingOut.{reads_on_but}
use Rattle.gq_keeper.proofs.starting.recall_lines.Goals as goal

pub returns-then-is_plan : goal.returns-then-is_plan
returns-then-is_plan g c = record { recalled = recalls_plan (RecallsBut (g.F.LeavesOut.leaves_out c.args.left_out.now) g.M.Machine.recalls) c.args.machine.now (whole_lines c.args.text.now) (sym c.is_plan.ensures ∙ c.if-is_plan.true); refused = tt }

pub loop-line-init : goal.loop-line-init
loop-line-init g c = reading_none (RecallsBut (g.F.LeavesOut.leaves_out c.args.left_out.now) g.M.Machine.recalls) _ _

pub loop-line-preserved : goal.loop-line-preserved
loop-line-preserved g c = reading_more (RecallsBut (g.F.LeavesOut.leaves_out c.args.left_out.now) g.M.Machine.recalls) _ _ _ _ _ c.in-Some.line.now c.in-Some.after.now c.loop-line.invariant c.in-Some.ensures.lines c.in_ok-recall_unless.ensures.recalled

pub returns : goal.returns
returns g c = record { refused = tt; recalled = recalls_facts (RecallsBut (g.F.LeavesOut.leaves_out c.args.left_out.now) g.M.Machine.recalls) c.args.machine.now _ (whole_lines c.args.text.now) (sym c.is_plan.ensures ∙ c.if-is_plan.false) (reading_end (RecallsBut (g.F.LeavesOut.leaves_out c.args.left_out.now) g.M.Machine.recalls) _ _ _ _ c.loop-line.invariant c.in_default.ensures.lines) }

-- the line that is refused is one of the batch
pub returns-in_err-recall_unless-clause-refused : goal.returns-in_err-recall_unless-clause-refused
returns-in_err-recall_unless-clause-refused g c =
    let p = err_from_is_err_and c.from_residual.result c.from_residual.ensures.1 in
    rw (p.1, p.2) (line_refused (RecallsBut (g.F.LeavesOut.leaves_out c.args.left_out.now) g.M.Machine.recalls) (readable_but (g.F.LeavesOut.leaves_out c.args.left_out.now) g.M.Machine.readable) (reads_on_but (g.F.LeavesOut.leaves_out c.args.left_out.now) g.M.Machine.recalls g.M.Machine.readable g.met.M.Machine.reads_on) c.args.machine.now _ _ _ c.in-Some.line.now c.in-Some.after.now _ (sym c.is_plan.ensures ∙ c.if-is_plan.false) c.loop-line.invariant c.in-Some.ensures.lines c.in_err-recall_unless.ensures.refused)
