-- The code's choice is the model's.
use Rattle.gq_world.proofs.Choosing.{chosen_told, none_told}
use Rattle.gq_world.proofs.tables.Core.quorum.Goals as goal

pub returns-in-Some : goal.returns-in-Some
returns-in-Some c = rw (← c.self.view_is) (rw c.self.invariant.0 at (chosen_told c.self.inside.up.grid c.self.inside.up.up c.in-Some.choice c.in-Some.ensures.choice c.in-Some.ensures.servers))

pub returns-in-None : goal.returns-in-None
returns-in-None c = rw (← c.self.view_is) (rw c.self.invariant.0 at (none_told c.self.inside.up.grid c.self.inside.up.up c.in-None.ensures.choice))
