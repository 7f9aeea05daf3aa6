use Rattle.gq_lines.proofs.DigitLanes.{all_digits}
use Rattle.gq_lines.proofs.hex_digits.are_digits.Goals as goal

pub returns : goal.returns
returns c = all_digits c.args.values c.fits-values.0
