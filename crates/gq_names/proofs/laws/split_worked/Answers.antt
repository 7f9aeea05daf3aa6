use Rattle.std.proofs.Common.{refl}
use Rattle.gq_names.proofs.laws.split_worked.Goals as goal

pub returns : goal.returns
returns c = record { told = refl; signed = refl; signed_again = refl; cleared = refl; cleared_again = refl }
