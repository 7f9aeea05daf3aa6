use Rattle.gq_lines.proofs.Numbers.{numbers_read_back, long_numbers_read_back}
use Rattle.gq_lines.proofs.laws.numbers_read_back.Goals as goal

pub returns : goal.returns
returns c = record { short = numbers_read_back; long = long_numbers_read_back }
