use Rattle.std.proofs.Common.{◌∙◌, sym}
use Rattle.gq_order.proofs.checking.walks.Goals as goal
use Rattle.gq_order.proofs.Rests.{walks_ends, walks_stops, walks_goes}

pub returns-in_default : goal.returns-in_default
returns-in_default c =
    let h = c.in_default.ensures in
    sym (walks_ends c.args.ops.now c.args.order.now c.loop-place.place-index c.loop-place.begun c.loop-place.content.now c.loop-place-test.true h.lookup.3) ∙ c.loop-place.invariant

pub returns-then-not-passes : goal.returns-then-not-passes
returns-then-not-passes c =
    let h = c.in-Some.ensures in
    let fails = c.if-not-passes.ensures in
    sym (walks_stops c.args.ops.now c.args.order.now c.loop-place.place-index c.loop-place.begun c.max-begun.result c.loop-place.content.now c.in-Some.a.now c.loop-place-test.true h.lookup.3.0 h.lookup.1 c.max-begun.ensures fails) ∙ c.loop-place.invariant

pub loop-place-preserved : goal.loop-place-preserved
loop-place-preserved c =
    let h = c.in-Some.ensures in
    let pass = c.if-not-passes.ensures in
    sym (walks_goes c.args.ops.now c.args.order.now c.loop-place.place-index c.loop-place.begun c.max-begun.result c.loop-place.content.now _ c.in-Some.a.now c.loop-place-test.true h.lookup.3.0 h.lookup.1 c.max-begun.ensures pass c.content_after-content.ensures) ∙ c.loop-place.invariant
