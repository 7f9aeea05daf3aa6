use Rattle.std.proofs.Common.{◌-◌, ◌∙◌, ap, refl, get_or, replicate, arith}
use Rattle.std.proofs.lemmas.List.{get_or_default}
use Rattle.gq_tag.specs.Tag.{file_place}
use Rattle.gq_order.specs.Passes.{begun_by, ending_in}
use Rattle.gq_order.proofs.Backwards.{back_first, back_more, back_last}
use Rattle.gq_order.proofs.history.read_back.Goals as goal

pub loop-place-init : goal.loop-place-init
loop-place-init c =
    let made = c.in_ok-ends.ensures in
    back_first c.args.file.tenant (file_place c.args.file) c.args.events.now c.args.answers.now c.args.sessions.now _ c.args.size c.in_ok-ends.ends.items c.new-ops.result.items refl c.requires.size
    (made.items ∙ ap (replicate c.args.size) c.no_ending.ensures) c.new-ops.ensures.items

pub loop-place-preserved : goal.loop-place-preserved
loop-place-preserved c =
    let i = c.loop-place.place - 1 in
    let e = c.index-events-place.result in
    let a = c.index-answers-place.result in
    back_more c.args.file.tenant (file_place c.args.file) c.args.events.now c.args.answers.now c.args.sessions.now c.loop-place.place c.loop-place.ends.items c.enter_by.new.ends.items c.loop-place.ops.items c.keep.new.ops.items e a (get_or c.args.sessions.now i 0) c.in_ok-begun_by.field-0
    c.loop-place.invariant c.loop-place-test.true c.loop-place.auto.place c.requires.events c.requires.answers c.index-events-place.is c.index-answers-place.is
    (get_or_default c.args.sessions.now i 0 (get_or c.args.sessions.now i 0) (omega arith))
    (c.in_ok-begun_by.ensures ∙ ap (λ z. begun_by c.args.file.tenant (file_place c.args.file) c.args.answers.now i e a (ending_in z)) c.as_slice.ensures.value)
    c.in_ok-keep.ensures c.enter_by.ensures

pub returns : goal.returns
returns c = back_last c.args.file.tenant (file_place c.args.file) c.args.events.now c.args.answers.now c.args.sessions.now c.loop-place.place c.loop-place.ends.items c.loop-place.ops.items c.loop-place.invariant c.loop-place-test.false
