use Rattle.gq_sum.proofs.Showing.{changed_words_show}
use Rattle.gq_sum.proofs.laws.changed_words_show.Goals as goal

pub returns : goal.returns
returns c = changed_words_show
