use Rattle.std.proofs.Common.{◌≡◌, ◌∙◌, ap, arith, get_or, sym, length, vec_len}
use Rattle.gq_laws.specs.Operations.{ops_at}
use Rattle.gq_picture.specs.Drawing.{bar_of}
use Rattle.gq_picture.proofs.Steps.{bars_more, bars_skip, found}
use Rattle.gq_picture.proofs.drawing.bars.Goals as goal
use Rattle.gq_picture.proofs.drawing.bars.Goals.{in-Some+in_ok-grow, in_default}

pub loop-place-preserved : goal.loop-place-preserved
loop-place-preserved c =
    let ops = c.args.ops.now in let order = c.args.order.now in let seq = ops_at ops order in let i = c.loop-place.place-index in let p = get_or order i 0 in
    let old = c.loop-place.drawn.items in let new = c.match-get.drawn.items in
    elim c.match-get.branch [
      | in-Some+in_ok-grow w ↦
          let h = w.in-Some.ensures.lookup in let a = w.in-Some.a.now in
          let size : vec_len c.loop-place.drawn ≡ length old = omega (arith, c.loop-place.drawn.ok.0) in
          bars_more ops seq order i a c.loop-place.last c.match-get.last w.bar_of-bar.result old new _ c.loop-place-test.true (found ops p a h.3.0 h.1) (w.last-is ∙ w.max-last.ensures)
          (w.bar_of-bar.ensures seq c.requires ∙ (ap (λ n. bar_of seq n w.max-last.result p a) (w.len.ensures ∙ size) ∙ ap (λ high. bar_of seq (length old) high p a) (sym w.last-is)))
          (ap (λ z. z.items) w.drawn-is ∙ w.in_ok-grow.ensures.items) c.loop-place.invariant
      | in_default w ↦
          bars_skip ops seq order i c.loop-place.last c.match-get.last old new _ c.loop-place-test.true w.in_default.ensures.lookup.3 w.last-is (ap (λ z. z.items) w.drawn-is) c.loop-place.invariant
    ]
