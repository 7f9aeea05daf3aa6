use Rattle.gq_naming.proofs.Closed.{looks_are_closed}
use Rattle.gq_naming.proofs.laws.looks_are_closed.Goals as goal

pub returns : goal.returns
returns c = looks_are_closed
