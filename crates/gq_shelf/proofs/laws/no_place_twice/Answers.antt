use Rattle.gq_shelf.proofs.Apart.{no_place_twice}
use Rattle.gq_shelf.proofs.laws.no_place_twice.Goals as goal

pub returns : goal.returns
returns c = no_place_twice
