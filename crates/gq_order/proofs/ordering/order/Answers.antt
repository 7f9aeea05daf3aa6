use Rattle.std.proofs.lemmas.Result.{IfOk-weaker}
use Rattle.gq_laws.proofs.Ordering.{order_legal}
use Rattle.gq_order.proofs.ordering.order.Goals as goal
use Rattle.gq_order.proofs.Standing.{order_from_kept}
use Rattle.gq_order.proofs.Unique.{order_unique}

pub returns-clause-order : goal.returns-clause-order
returns-clause-order c =
    let made = c.in_ok-keys.ensures in
    let sort = c.in_ok-sort_items.ensures in
    let read = c.as_slice.ensures in
    IfOk-weaker c.kept.result _ _ (λ order is. order_from_kept c.args.ops.now c.in_ok-keys.keys.items c.sort_items.new.self.items c.as_slice.result.now order.items made sort.permutation sort.sorted read.value is) c.kept.ensures

pub returns-clause-definition : goal.returns-clause-definition
returns-clause-definition c =
    let made = c.in_ok-keys.ensures in
    let sort = c.in_ok-sort_items.ensures in
    let read = c.as_slice.ensures in
    IfOk-weaker c.kept.result _ _ (λ order is tagged. order_unique c.args.ops.now order.items (order_from_kept c.args.ops.now c.in_ok-keys.keys.items c.sort_items.new.self.items c.as_slice.result.now order.items made sort.permutation sort.sorted read.value is tagged)) c.kept.ensures

pub returns-clause-legal : goal.returns-clause-legal
returns-clause-legal c =
    let made = c.in_ok-keys.ensures in
    let sort = c.in_ok-sort_items.ensures in
    let read = c.as_slice.ensures in
    IfOk-weaker c.kept.result _ _ (λ order is tagged. order_legal c.args.ops.now order.items tagged (order_from_kept c.args.ops.now c.in_ok-keys.keys.items c.sort_items.new.self.items c.as_slice.result.now order.items made sort.permutation sort.sorted read.value is tagged)) c.kept.ensures
