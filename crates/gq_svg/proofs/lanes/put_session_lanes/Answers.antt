use Rattle.std.proofs.Common.{◌∙◌, ◌+◌, ◌++◌, ℕ, ap}
use Rattle.gq_svg.specs.Lanes.{session_lane}
use Rattle.gq_svg.proofs.Ranges.{session_more}
use Rattle.gq_svg.proofs.lanes.put_session_lanes.Goals as goal

pub loop-before-preserved : goal.loop-before-preserved
loop-before-preserved c =
    let k = c.loop-before.before in let edge = c.args.edge in
    session_more edge k c.args.out.now.items c.loop-before.out.items _ c.loop-before.invariant
    (c.in_ok-put_session_lane.ensures ∙ ap (λ (top : ℕ). c.loop-before.out.items ++ session_lane edge top (k + 1)) c.lane_top.ensures)
