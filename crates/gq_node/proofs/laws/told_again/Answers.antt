-- What is told of a request that comes again.
use Rattle.gq_node.proofs.Again.{all_ends_told_again}
use Rattle.gq_node.proofs.Moves.{all_told_again}
use Rattle.gq_node.proofs.laws.told_again.Goals as goal

pub returns : goal.returns
returns c = record { again = all_told_again; ends = all_ends_told_again }
