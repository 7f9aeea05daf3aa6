use Rattle.gq_escape.proofs.Escaping.{at_most_twice}
use Rattle.gq_escape.proofs.laws.at_most_twice.Goals as goal

pub returns : goal.returns
returns c = at_most_twice
