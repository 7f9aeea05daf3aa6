use Rattle.gq_escape.proofs.Escaping.{bytes_read_back}
use Rattle.gq_escape.proofs.laws.bytes_read_back.Goals as goal

pub returns : goal.returns
returns c = bytes_read_back
