use Rattle.gq_wire.proofs.LettersBack.{letters_read_back}
use Rattle.gq_wire.proofs.laws.letters_read_back.Goals as goal

pub returns : goal.returns
returns c = letters_read_back
