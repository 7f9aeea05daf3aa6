use Rattle.gq_quote.proofs.Quoting.{at_most_four_times}
use Rattle.gq_quote.proofs.laws.at_most_four_times.Goals as goal

pub returns : goal.returns
returns c = at_most_four_times
