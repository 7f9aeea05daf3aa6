use Rattle.gq_column.proofs.Alike.{all_act_alike}
use Rattle.gq_column.proofs.laws.acts_of_ledgers.Goals as goal

pub returns : goal.returns
returns c = all_act_alike
