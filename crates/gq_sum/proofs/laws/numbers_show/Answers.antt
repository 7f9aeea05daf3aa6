use Rattle.gq_sum.proofs.Showing.{numbers_show}
use Rattle.gq_sum.proofs.laws.numbers_show.Goals as goal

pub returns : goal.returns
returns c = numbers_show
