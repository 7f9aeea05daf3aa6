use Rattle.std.proofs.Common.{◌∙◌, ap, get_or}
use Rattle.gq_picture.proofs.Steps.{begins_more, begins_skip, found}
use Rattle.gq_picture.proofs.places.begins.Goals as goal
use Rattle.gq_picture.proofs.places.begins.Goals.{in-Some+in_ok-grow, in_default}

pub loop-place-preserved : goal.loop-place-preserved
loop-place-preserved c =
    let ops = c.args.ops.now in let order = c.args.order.now in let i = c.loop-place.place-index in
    let old = c.loop-place.places.items in let new = c.match-get.places.items in
    elim c.match-get.branch [
      | in-Some+in_ok-grow w ↦
          let h = w.in-Some.ensures.lookup in
          begins_more ops order i w.in-Some.a.now old new _ c.loop-place-test.true (found ops (get_or order i 0) w.in-Some.a.now h.3.0 h.1)
          (ap (λ z. z.items) w.places-is ∙ w.in_ok-grow.ensures.items) c.loop-place.invariant
      | in_default w ↦ begins_skip ops order i old new _ c.loop-place-test.true w.in_default.ensures.lookup.3 (ap (λ z. z.items) w.places-is) c.loop-place.invariant
    ]
