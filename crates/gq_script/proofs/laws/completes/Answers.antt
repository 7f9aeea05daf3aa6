use Rattle.gq_script.proofs.Completing.{all_inputs_complete, all_input_requests_complete}
use Rattle.gq_script.proofs.laws.completes.Goals as goal

pub returns : goal.returns
returns c = record {
  operations = all_inputs_complete;
  requests = all_input_requests_complete;
}
