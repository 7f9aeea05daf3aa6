use Rattle.std.proofs.Common.{refl}
use Rattle.gq_names.proofs.laws.sweep_worked.Goals as goal
use Rattle.gq_names.proofs.WorkedSweep.{first_is, turns_are}

pub returns : goal.returns
returns c = record { first = first_is; second = first_is; turns = turns_are; before = refl; between = refl; after = refl; older = refl; gone = refl }
