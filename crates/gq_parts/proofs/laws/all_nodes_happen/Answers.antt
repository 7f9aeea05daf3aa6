-- The worked run happens.
use Rattle.gq_parts.proofs.Happened.{all_worked_happen}
use Rattle.gq_parts.proofs.laws.all_nodes_happen.Goals as goal

pub returns : goal.returns
returns c = all_worked_happen
