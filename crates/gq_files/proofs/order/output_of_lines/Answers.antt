use Rattle.std.proofs.Common.{◌∙◌, refl}
use Rattle.gq_tag.specs.Tag.{file_place}
use Rattle.gq_lines.specs.Lines.{lines_of}
use Rattle.gq_files.proofs.Ordering.{order_written}
use Rattle.gq_files.proofs.order.output_of_lines.Goals as goal

pub returns : goal.returns
returns c =
    let run = c.in_ok-world.ensures in
    order_written c.args.plan c.plan.result.now c.args.file.tenant (file_place c.args.file) (lines_of c.args.lines.now) c.as_slice.result.now c.in_ok-world.answered.text.items c.put_order.new.out.items
    (c.plan.ensures ∙ run.plan) (c.as_slice.ensures.value ∙ run.events) (run.text refl) c.in_ok-put_order.ensures
