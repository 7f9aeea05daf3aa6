use Rattle.gq_laws.specs.Orders.{order}
use Rattle.gq_laws.proofs.AllTenants.{all_tenants_tagged}
use Rattle.gq_laws.proofs.Ordering.{order_legal}
use Rattle.gq_laws.proofs.Sorting.{order_is}
use Rattle.gq_script.specs.Linearizable.{operations_of}
use Rattle.gq_text.specs.Input.{event_of}
use Rattle.std.specs.Prelude.{map}
use Rattle.gq_script.proofs.laws.linearizable.Goals as goal

pub returns : goal.returns
returns c = λ input plan lines t file accepts.
    let ops = operations_of plan lines t file in
    (order ops, order_legal ops (order ops) (all_tenants_tagged plan (map (event_of plan) lines) t file) (order_is ops))
