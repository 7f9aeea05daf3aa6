use Rattle.std.proofs.Common.{◌∙◌, ◌++◌, ap}
use Rattle.std.specs.List.{flat_map}
use Rattle.std.proofs.lemmas.List.{get_or_default, take_all}
use Rattle.gq_lines.proofs.Extending.{one_more}
use Rattle.gq_files.specs.Orders.{operation_line_at}
use Rattle.gq_files.proofs.Ordering.{lines_at}
use Rattle.gq_files.proofs.order.put_ops.Goals as goal

pub loop-place-preserved : goal.loop-place-preserved
loop-place-preserved c =
    let order = c.args.order.now in let i = c.loop-place.place-index in
    one_more (operation_line_at c.args.ops.now) c.args.out.now.items c.loop-place.out.items c.put_at.new.out.items order i _ c.loop-place-test.true (get_or_default order i _ _ c.loop-place-test.true) c.loop-place.invariant c.in_ok-put_at.ensures

pub returns : goal.returns
returns c =
    let ops = c.args.ops.now in let order = c.args.order.now in
    c.loop-place.invariant ∙ ap (λ t. c.args.out.now.items ++ t) (ap (flat_map (operation_line_at ops)) (take_all c.loop-place.place-index order c.loop-place-test.false) ∙ lines_at ops order)
