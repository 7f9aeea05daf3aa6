-- Nothing has happened yet.
use Rattle.gq_world.proofs.Starting.{first_sound, first_stands}
use Rattle.gq_world.proofs.world.World.new.Goals as goal

pub invariant_of-result : goal.invariant_of-result
invariant_of-result c = λ goes. first_sound c.args.plan c.in_ok-tables.tables c.in_ok-tables.ensures

pub returns-clause-stands : goal.returns-clause-stands
returns-clause-stands c = first_stands c.args.plan c.in_ok-tables.tables c.in_ok-tables.ensures
