use Rattle.std.proofs.Common.{sym, subst, Bool}
use Rattle.std.specs.Bool.{Decides}
use Rattle.gq_laws.specs.Operations.{Legal}
use Rattle.gq_order.proofs.checking.check_order.Goals as goal
use Rattle.gq_order.proofs.Walking.{at_once_decides}

pub returns : goal.returns
returns c =
    let P : Bool → Type 0 = λ b. Decides b (Legal c.args.ops.now c.args.order.now) in
    subst P (sym c.is_legal.ensures) (at_once_decides c.args.ops.now c.args.order.now)
