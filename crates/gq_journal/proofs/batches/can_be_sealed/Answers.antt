use Rattle.std.proofs.Common.{sym, ◌∙◌, eq-eqb}
use Rattle.std.proofs.lemmas.Bool.{eqb-true}
use Rattle.gq_journal.proofs.Scanning.{all_batch, seals_no_batch, ends_no_batch}
use Rattle.gq_journal.proofs.batches.can_be_sealed.Goals as goal

pub returns-clause-is : goal.returns-clause-is
returns-clause-is c = λ empty. all_batch 0 c.args.text.now c.loop-line.rest.now c.loop-line.invariant (eqb-true _ 0 (sym c.is_empty.ensures ∙ empty))

pub returns-clause-only : goal.returns-clause-only
returns-clause-only c = λ b. c.is_empty.ensures ∙ eq-eqb _ 0 (ends_no_batch 0 c.args.text.now c.loop-line.rest.now c.loop-line.invariant (rw c.in_default.is at c.first_whole_line.ensures.lines) b)

pub returns-then-is_sealing-clause-only : goal.returns-then-is_sealing-clause-only
returns-then-is_sealing-clause-only c = λ b. absurd (seals_no_batch 0 c.args.text.now c.loop-line.rest.now c.in-Some.line.now c.in-Some.after.now c.loop-line.invariant (record { lines = c.in-Some.ensures.lines; text = c.in-Some.ensures.text }) (sym c.is_sealing.ensures ∙ c.if-is_sealing.true) b)
