use Rattle.std.proofs.Common.{◌≡◌, ◌∙◌, ◌+◌, ◌++◌, ℕ, sym, ap, length, true, arith}
use Rattle.gq_svg.specs.Lanes.{is_down, server_text}
use Rattle.gq_svg.proofs.Ranges.{count_more, server_kept, server_more, up_more}
use Rattle.gq_svg.proofs.lanes.put_server_lanes.Goals as goal
use Rattle.gq_svg.proofs.lanes.put_server_lanes.Goals.{then-is_down+in_ok-put_server, else-is_down}

pub loop-server-preserved : goal.loop-server-preserved
loop-server-preserved c =
    let outages = c.args.outages.now in let k = c.loop-server.server in let edge = c.args.edge in
    elim c.if-is_down.branch [
      | then-is_down+in_ok-put_server w ↦
          let down : is_down outages k ≡ true = sym c.is_down.ensures ∙ w.if-is_down.true in
          let now = w.in_ok-put_server.ensures ∙ ap (λ (top : ℕ). c.loop-server.out.items ++ server_text edge top outages k) w.server_top.ensures in record {
            written = rw w.out-is (server_more edge c.args.sessions outages k c.loop-server.before c.args.out.now.items c.loop-server.out.items _ down c.loop-server.invariant.counted c.loop-server.invariant.written now);
            counted = w.before-is ∙ (ap (λ (n : ℕ). n + 1) c.loop-server.invariant.counted ∙ sym (count_more outages k down));
            most = omega (arith, w.before-is, c.loop-server.invariant.most);
          }
      | else-is_down w ↦
          let up = sym c.is_down.ensures ∙ w.if-is_down.false in record {
            written = rw w.out-is (server_kept edge c.args.sessions outages k c.args.out.now.items c.loop-server.out.items up c.loop-server.invariant.written);
            counted = w.before-is ∙ (c.loop-server.invariant.counted ∙ ap length (sym (up_more outages k up)));
            most = omega (arith, w.before-is, c.loop-server.invariant.most);
          }
    ]
