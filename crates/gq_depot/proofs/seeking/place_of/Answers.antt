use Rattle.gq_depot.proofs.Settling.{none_more, removed_at, none_removed}
use Rattle.gq_depot.proofs.seeking.place_of.Goals as goal

pub returns-then-left-place-clause-removed : goal.returns-then-left-place-clause-removed
returns-then-left-place-clause-removed c = removed_at c.args.number c.args.left.now c.loop-place.place (record { number = 0; size = 0 }) c.loop-place-test.true c.if-left-place.true c.loop-place.invariant

pub loop-place-preserved : goal.loop-place-preserved
loop-place-preserved c = none_more c.args.number c.args.left.now c.loop-place.place (record { number = 0; size = 0 }) c.loop-place-test.true c.if-left-place.false c.loop-place.invariant

pub returns-clause-none : goal.returns-clause-none
returns-clause-none c = none_removed c.args.number c.args.left.now c.loop-place.place c.loop-place-test.false c.loop-place.invariant
