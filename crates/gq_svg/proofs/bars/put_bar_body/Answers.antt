use Rattle.std.proofs.Common.{◌∙◌, ◌++◌, ℕ, ap, codes}
use Rattle.gq_svg.specs.Bars.{bar_box, label}
use Rattle.gq_svg.specs.Layout.{label_room}
use Rattle.gq_svg.proofs.Joining.{three}
use Rattle.gq_svg.proofs.bars.put_bar_body.Goals as goal

pub returns : goal.returns
returns c =
    let bar = c.args.bar in let kind = c.args.kind.now in let top = c.args.top in
    three c.args.out.now.items _ _ _ (bar_box bar top) (label (label_room bar.left bar.right) kind) (codes "</text></g>\n")
    c.in_ok-put_box.ensures (c.in_ok-put_label.ensures ∙ ap (λ (room : ℕ). c.put_box.new.out.items ++ label room kind) c.label_room.ensures) c.in_ok-grow_by.ensures.items
