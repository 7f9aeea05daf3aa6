use Rattle.gq_live.proofs.Noting.{note-keeps}
use Rattle.gq_live.proofs.attending.end_operation.Goals as goal

pub loop-init : goal.loop-init
loop-init g c = λ kept. kept

pub loop-preserved : goal.loop-preserved
loop-preserved g c = λ kept. note-keeps c.in-Ok.note c.loop.session _ c.in_ok-take_note.ensures.takes (c.loop.invariant kept)

pub returns-then-not-is_busy-clause-gave_up : goal.returns-then-not-is_busy-clause-gave_up
returns-then-not-is_busy-clause-gave_up g c = c.loop.invariant

pub returns-in_default-clause-gave_up : goal.returns-in_default-clause-gave_up
returns-in_default-clause-gave_up g c = c.loop.invariant

pub returns-then-not-branch-clause-gave_up : goal.returns-then-not-branch-clause-gave_up
returns-then-not-branch-clause-gave_up g c = λ kept. note-keeps c.in-Ok.note c.loop.session _ c.in_ok-take_note.ensures.takes (c.loop.invariant kept)
