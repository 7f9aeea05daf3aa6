use Rattle.gq_laws.proofs.laws.completes.Goals as goal
use Rattle.gq_laws.proofs.Asking.{all_may_abandon, all_requests_complete}
use Rattle.gq_laws.proofs.Completing.{all_operations_complete}
use Rattle.gq_laws.proofs.CompletingAmong.{all_tenants_complete}

pub returns : goal.returns
returns c = record {
  operations = all_operations_complete;
  requests = all_requests_complete;
  tenants = all_tenants_complete;
  abandoned = all_may_abandon;
}
