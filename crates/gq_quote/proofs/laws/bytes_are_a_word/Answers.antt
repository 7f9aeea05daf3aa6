use Rattle.gq_quote.proofs.Quoting.{bytes_are_a_word}
use Rattle.gq_quote.proofs.laws.bytes_are_a_word.Goals as goal

pub returns : goal.returns
returns c = bytes_are_a_word
