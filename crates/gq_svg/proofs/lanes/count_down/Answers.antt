use Rattle.std.proofs.Common.{◌∙◌, ◌+◌, ℕ, sym, ap, length, arith}
use Rattle.gq_svg.proofs.Ranges.{count_more, up_more}
use Rattle.gq_svg.proofs.lanes.count_down.Goals as goal
use Rattle.gq_svg.proofs.lanes.count_down.Goals.{then-is_down, else-is_down}

pub loop-server-preserved : goal.loop-server-preserved
loop-server-preserved c =
    let outages = c.args.outages.now in let k = c.loop-server.server in
    elim c.if-is_down.branch [
      | then-is_down w ↦ record {
        counted = w.count-is ∙ (ap (λ (n : ℕ). n + 1) c.loop-server.invariant.counted ∙ sym (count_more outages k (sym c.is_down.ensures ∙ w.if-is_down.true)));
        most = omega (arith, w.count-is, c.loop-server.invariant.most);
      }
      | else-is_down w ↦ record {
        counted = w.count-is ∙ (c.loop-server.invariant.counted ∙ ap length (sym (up_more outages k (sym c.is_down.ensures ∙ w.if-is_down.false))));
        most = omega (arith, w.count-is, c.loop-server.invariant.most);
      }
    ]
