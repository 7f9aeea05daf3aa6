use Rattle.gq_wire.proofs.ValuesBack.{copies_in_digits_read_back}
use Rattle.gq_wire.proofs.laws.copies_in_digits_read_back.Goals as goal

pub returns : goal.returns
returns c = copies_in_digits_read_back
