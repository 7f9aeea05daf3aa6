use Rattle.std.proofs.Common.{sym, ◌∙◌}
use Rattle.gq_journal.proofs.Scanning.{scanned_front, sealed_right, sealed_text_is, can_be_sealed}
use Rattle.gq_journal.proofs.batches.first_batch.Goals as goal

pub returns-then-branch-clause-batches : goal.returns-then-branch-clause-batches
returns-then-branch-clause-batches c =
    sealed_right c.args.n c.args.text.now c.loop-line.rest.now c.in-Some.line.now c.in-Some.after.now _ c.loop-line.invariant
    (scanned_front c.args.n c.args.text.now c.loop-line.rest.now c.loop-line.invariant)
    (record { lines = c.in-Some.ensures.lines; text = c.in-Some.ensures.text }) (cc) (sym c.in_ok-is_seal.ensures ∙ c.if-branch.true)

pub returns-then-branch-clause-text : goal.returns-then-branch-clause-text
returns-then-branch-clause-text c =
    sealed_text_is c.args.n c.args.text.now c.loop-line.rest.now c.in-Some.line.now c.in-Some.after.now _ c.loop-line.invariant
    (scanned_front c.args.n c.args.text.now c.loop-line.rest.now c.loop-line.invariant)
    (record { lines = c.in-Some.ensures.lines; text = c.in-Some.ensures.text }) (sym c.in_ok-is_seal.ensures ∙ c.if-branch.true)

pub returns-then-branch-clause-lines : goal.returns-then-branch-clause-lines
returns-then-branch-clause-lines c =
    can_be_sealed c.args.n c.args.text.now c.loop-line.rest.now _ c.loop-line.invariant (scanned_front c.args.n c.args.text.now c.loop-line.rest.now c.loop-line.invariant)
