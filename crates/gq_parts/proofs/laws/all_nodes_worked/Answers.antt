-- A run of any length, of which the law of all nodes speaks.
use Rattle.gq_parts.proofs.Worked.{all_worked}
use Rattle.gq_parts.proofs.laws.all_nodes_worked.Goals as goal

pub returns : goal.returns
returns c = all_worked
