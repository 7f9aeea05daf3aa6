-- It is an invariant.
use Rattle.std.proofs.Common.{subst}
use Rattle.gq_node.specs.Lacks.{HasRoom}
use Rattle.gq_node.proofs.lacks.Lacks.room.Goals as goal

pub returns : goal.returns
returns c = subst HasRoom c.self.view_is c.self.invariant.0
