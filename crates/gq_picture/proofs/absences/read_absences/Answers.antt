use Rattle.std.proofs.Common.{◌∙◌, ◌-◌, ◌++◌, ◌≤◌, ap, get_or, length, arith}
use Rattle.std.proofs.lemmas.List.{get_or_default}
use Rattle.gq_picture.specs.declared.absences.Effect.TheVariants.{Nothing}
use Rattle.gq_picture.specs.Absences.{absence_in}
use Rattle.gq_picture.proofs.Absent.{back_first, back_last, back_more}
use Rattle.gq_picture.proofs.absences.read_absences.Goals as goal

pub begin-requires : goal.begin-requires
begin-requires c = let few : length c.loop-i.returns.items ≤ 256 = omega (arith, c.loop-i.invariant.table.size, c.requires.servers) in rw c.as_slice.ensures.value few

pub loop-i-init : goal.loop-i-init
loop-i-init c = back_first c.args.servers c.args.places.now c.args.effects.now c.in_ok-returns.returns.items c.new-all.result.items c.requires.places c.in_ok-returns.ensures.items c.new-all.ensures.items

pub loop-i-preserved : goal.loop-i-preserved
loop-i-preserved c =
    let place = get_or c.args.places.now (c.loop-i.i - 1) 0 in
    let effect = get_or c.args.effects.now (c.loop-i.i - 1) Nothing in
    back_more c.args.servers c.args.places.now c.args.effects.now c.loop-i.i place effect c.loop-i.returns.items c.note.new.returns.items c.loop-i.all.items c.begin.new.all.items
    c.loop-i-test.true c.loop-i.auto.i c.requires.places (get_or_default c.args.effects.now (c.loop-i.i - 1) Nothing effect (omega arith)) (get_or_default c.args.places.now (c.loop-i.i - 1) 0 place (omega arith)) c.loop-i.invariant c.note.ensures
    (c.in_ok-begin.ensures ∙ ap (λ z. c.loop-i.all.items ++ absence_in z place effect) c.as_slice.ensures.value)

pub returns : goal.returns
returns c = c.reverse.ensures.items ∙ back_last c.args.servers c.args.places.now c.args.effects.now c.loop-i.i c.loop-i.returns.items c.loop-i.all.items c.loop-i.invariant c.loop-i-test.false
