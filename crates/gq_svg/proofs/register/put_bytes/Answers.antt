use Rattle.std.proofs.Common.{◌∙◌, ◌++◌, ℕ, ap, codes}
use Rattle.gq_svg.specs.Contents.{content_label, content_text}
use Rattle.gq_svg.specs.Layout.{label_room}
use Rattle.gq_svg.specs.Register.{value_box}
use Rattle.gq_svg.proofs.Joining.{five}
use Rattle.gq_svg.proofs.register.put_bytes.Goals as goal

pub returns : goal.returns
returns c =
    let bytes = c.args.bytes.now in let value = c.args.value in
    five c.args.out.now.items _ _ _ _ _ (codes "<g class=\"value\"><title>Register: ") (content_text bytes) (value_box value) (content_label (label_room value.left value.right) bytes) (codes "</text></g>\n")
    c.in_ok-grow_by.ensures.items c.in_ok-put_content.ensures c.in_ok-put_value_box.ensures
    (c.in_ok-put_content_label.ensures ∙ ap (λ (room : ℕ). c.put_value_box.new.out.items ++ content_label room bytes) c.label_room.ensures) c.in_ok-grow_by-2.ensures.items
