use Rattle.gq_naming.proofs.Numbers.{numbers_are_above}
use Rattle.gq_naming.proofs.laws.numbers_are_above.Goals as goal

pub returns : goal.returns
returns c = numbers_are_above
