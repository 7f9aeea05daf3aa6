-- The bytes are the padded letters.
use Rattle.std.proofs.Common.{sym, ◌∙◌}
use Rattle.gq_desk.specs.NameBack.{padded-take}
use Rattle.gq_desk.proofs.names.Name.padded.Goals as goal

pub returns : goal.returns
returns c = rw (← c.self.view_is) (sym (padded-take c.self.inside.bytes c.self.inside.len c.self.invariant.0 c.self.invariant.1 c.self.invariant.2))
