use Rattle.gq_lines.proofs.Numbers.{numbers_have_one_form, long_numbers_have_one_form}
use Rattle.gq_lines.proofs.laws.numbers_have_one_form.Goals as goal

pub returns : goal.returns
returns c = record { short = numbers_have_one_form; long = long_numbers_have_one_form }
