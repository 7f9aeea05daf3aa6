use Rattle.gq_laws.proofs.laws.legal.Goals as goal
use Rattle.gq_laws.specs.Laws.{lone_operations}
use Rattle.gq_laws.specs.Orders.{order}
use Rattle.gq_laws.proofs.AllTagged.{all_tagged}
use Rattle.gq_laws.proofs.Ordering.{order_legal}
use Rattle.gq_laws.proofs.Sorting.{order_is}

pub returns : goal.returns
returns c = λ grid row turns file. order_legal (lone_operations grid row turns file) (order (lone_operations grid row turns file)) (all_tagged grid row turns file) (order_is (lone_operations grid row turns file))
