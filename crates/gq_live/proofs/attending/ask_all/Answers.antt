use Rattle.gq_live.proofs.Noting.{asked-keep}
use Rattle.gq_live.proofs.attending.ask_all.Goals as goal

pub loop-init : goal.loop-init
loop-init g c = λ kept. kept

pub loop-preserved : goal.loop-preserved
loop-preserved g c = λ kept. c.in_ok-end_operation.ensures.gave_up (asked-keep _ c.loop.session _ c.in_ok-outbox.ensures.asks (c.loop.invariant kept))

pub returns-in_default-clause-gave_up : goal.returns-in_default-clause-gave_up
returns-in_default-clause-gave_up g c = λ kept. asked-keep _ c.loop.session _ c.in_ok-outbox.ensures.asks (c.loop.invariant kept)

pub returns-then-not-branch-clause-gave_up : goal.returns-then-not-branch-clause-gave_up
returns-then-not-branch-clause-gave_up g c = λ kept. c.in_ok-end_operation.ensures.gave_up (asked-keep _ c.loop.session _ c.in_ok-outbox.ensures.asks (c.loop.invariant kept))
