use Rattle.gq_laws.proofs.laws.tenants.Goals as goal
use Rattle.gq_laws.specs.Tenants.{tenant_operations}
use Rattle.gq_laws.specs.Orders.{order}
use Rattle.gq_laws.proofs.AllTenants.{all_tenants_tagged}
use Rattle.gq_laws.proofs.Ordering.{order_legal}
use Rattle.gq_laws.proofs.Sorting.{order_is}

pub returns : goal.returns
returns c = record {
  tagged = all_tenants_tagged;
  legal = λ plan events t file. order_legal (tenant_operations plan events t file) (order (tenant_operations plan events t file)) (all_tenants_tagged plan events t file) (order_is (tenant_operations plan events t file));
}
