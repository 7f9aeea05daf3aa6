use Rattle.gq_lines.proofs.DigitLanes.{joined_is}
use Rattle.gq_lines.proofs.hex_digits.joined.Goals as goal

pub returns : goal.returns
returns c = joined_is 16 c.args.values c.args.values c.fits-values.0 c.requires
