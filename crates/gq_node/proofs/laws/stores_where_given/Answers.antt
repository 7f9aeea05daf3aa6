-- A store goes where one stands who gave the copy.
use Rattle.gq_node.proofs.Aiming.{all_stores_go_where_given}
use Rattle.gq_node.proofs.laws.stores_where_given.Goals as goal

pub returns : goal.returns
returns c = record { columns = all_stores_go_where_given }
