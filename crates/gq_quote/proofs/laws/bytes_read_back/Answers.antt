use Rattle.gq_quote.proofs.Quoting.{bytes_read_back}
use Rattle.gq_quote.proofs.laws.bytes_read_back.Goals as goal

pub returns : goal.returns
returns c = bytes_read_back
