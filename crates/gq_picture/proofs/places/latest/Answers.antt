use Rattle.std.proofs.Common.{◌∙◌, ◌++◌, ◌∷◌, [], ap, get_or, sym}
use Rattle.gq_picture.proofs.Steps.{found, latest_more, latest_skip}
use Rattle.gq_picture.proofs.places.latest.Goals as goal
use Rattle.gq_picture.proofs.places.latest.Goals.{in-Some+in_ok-grow, in_default}

pub loop-place-preserved : goal.loop-place-preserved
loop-place-preserved c =
    let ops = c.args.ops.now in let order = c.args.order.now in let i = c.loop-place.place-index in
    let old = c.loop-place.places.items in let new = c.match-get.places.items in
    elim c.match-get.branch [
      | in-Some+in_ok-grow w ↦
          let h = w.in-Some.ensures.lookup in
          latest_more ops order i w.in-Some.a.now c.loop-place.last c.match-get.last old new _ c.loop-place-test.true (found ops (get_or order i 0) w.in-Some.a.now h.3.0 h.1)
          (w.last-is ∙ w.max-last.ensures) (ap (λ z. z.items) w.places-is ∙ (w.in_ok-grow.ensures.items ∙ ap (λ z. old ++ z ∷ []) (sym w.last-is))) c.loop-place.invariant
      | in_default w ↦
          latest_skip ops order i c.loop-place.last c.match-get.last old new _ c.loop-place-test.true w.in_default.ensures.lookup.3 w.last-is (ap (λ z. z.items) w.places-is) c.loop-place.invariant
    ]
