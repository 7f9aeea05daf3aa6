use Rattle.std.proofs.Common.{◌∙◌, ◌++◌, ℕ, ap}
use Rattle.gq_svg.specs.Bars.{bar_body, bar_head}
use Rattle.gq_svg.specs.Layout.{lane_top}
use Rattle.gq_svg.proofs.Joining.{two}
use Rattle.gq_svg.proofs.bars.put_bar.Goals as goal

pub returns : goal.returns
returns c =
    let a = c.args.op.now in let bar = c.args.bar in
    two c.args.out.now.items _ _ (bar_head c.args.first c.args.index a) (bar_body bar (lane_top a.session) a.kind)
    c.in_ok-put_bar_head.ensures (c.in_ok-put_bar_body.ensures ∙ ap (λ (top : ℕ). c.put_bar_head.new.out.items ++ bar_body bar top a.kind) c.lane_top.ensures)
