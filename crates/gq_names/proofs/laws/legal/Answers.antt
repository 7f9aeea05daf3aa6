use Rattle.gq_names.proofs.laws.legal.Goals as goal
use Rattle.gq_laws.specs.Orders.{order}
use Rattle.gq_names.specs.Names.{world_after, operations_of}
use Rattle.gq_laws.proofs.Ordering.{order_legal}
use Rattle.gq_laws.proofs.Sorting.{order_is}
use Rattle.gq_names.proofs.Steps.{all_names_tagged}

pub returns : goal.returns
returns c = λ v steps. order_legal (operations_of (world_after v steps)) (order (operations_of (world_after v steps))) (all_names_tagged v steps) (order_is (operations_of (world_after v steps)))
