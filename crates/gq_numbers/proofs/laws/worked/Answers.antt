use Rattle.std.proofs.Common.{refl, arith}
use Rattle.gq_numbers.proofs.laws.worked.Goals as goal
use Rattle.gq_numbers.proofs.WorkedCase.{is_chain, may_happen, asked, stores}

pub returns : goal.returns
returns c = record { chain = is_chain; may = may_happen; asked = asked; begun = refl; is_new = omega arith; first_lost = refl; then_lost = refl; number = refl; stores = stores }
