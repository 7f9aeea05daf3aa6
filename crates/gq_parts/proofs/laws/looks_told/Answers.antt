-- What a node tells of a look.
use Rattle.gq_parts.proofs.Looks.{looks_of_fleet}
use Rattle.gq_parts.proofs.laws.looks_told.Goals as goal

pub returns : goal.returns
returns c = looks_of_fleet
