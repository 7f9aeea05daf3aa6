use Rattle.std.proofs.Common.{◌∙◌, ◌++◌, ℕ, List, ap, codes, length}
use Rattle.gq_picture.specs.declared.drawing.Bar.{Bar}
use Rattle.gq_svg.specs.declared.picture.TheConstants.{LEGEND}
use Rattle.gq_svg.specs.Svg.{caption, head, height, picture_text, things, top, width}
use Rattle.gq_svg.proofs.Joining.{six}
use Rattle.gq_svg.proofs.picture.put_picture.Goals as goal

pub returns : goal.returns
unfolding picture_text
returns c =
    let name = c.args.name.now in let heading = c.args.heading in let d = c.args.drawing.now in
    let out = c.args.out.now.items in let headed = c.put_head.new.out.items in let topped = c.put_top.new.out.items in
    six out headed topped _ _ _ _ (head name heading (width d) (height heading d)) (top name heading (width d) (height heading d)) (caption (length d.bars.items)) LEGEND.now (things heading d) (codes "</svg>\n")
    (c.in_ok-put_head.ensures
    ∙ (ap (λ (n : ℕ). out ++ head name heading n c.height-height.result) c.width-width.ensures
    ∙ ap (λ (n : ℕ). out ++ head name heading (width d) n) c.height-height.ensures))
    (c.in_ok-put_top.ensures
    ∙ (ap (λ (n : ℕ). headed ++ top name heading n c.height-height.result) c.width-width.ensures
    ∙ ap (λ (n : ℕ). headed ++ top name heading (width d) n) c.height-height.ensures))
    (c.in_ok-put_caption.ensures ∙ ap (λ (bars : List Bar). topped ++ caption (length bars)) c.as_slice.ensures.value)
    c.in_ok-grow_by.ensures.items c.in_ok-put_things.ensures c.in_ok-grow_by-2.ensures.items
