use Rattle.std.proofs.Common.{refl}
use Rattle.gq_depot.proofs.depot.Depot.get_at.Goals as goal

pub returns-clause-tells : goal.returns-clause-tells
returns-clause-tells g c written = (refl, refl, refl, refl, refl, c.in_ok-found.ensures.found written)
