-- One file more.
use Rattle.gq_node.proofs.Lacking.{given_on, given_before}
use Rattle.gq_node.proofs.lacks.next_from.Goals as goal

pub loop-place-preserved : goal.loop-place-preserved
loop-place-preserved c = given_on c.args.files.now c.loop-place.place c.loop-place.invariant c.if-not-files-place.false

pub returns : goal.returns
returns c = given_before c.args.files.now c.loop-place.place _ c.loop-place.invariant c.loop-place-test.false
