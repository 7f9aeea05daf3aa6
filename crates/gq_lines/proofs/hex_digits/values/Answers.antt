use Rattle.std.proofs.Common.{w8}
use Rattle.std.proofs.lemmas.Simd.{below_from_Fits}
use Rattle.gq_lines.proofs.DigitLanes.{values_are}
use Rattle.gq_lines.proofs.hex_digits.values.Goals as goal

pub returns : goal.returns
returns c = values_are 32 c.args.lanes c.fits-lanes.0 (below_from_Fits w8 c.args.lanes c.fits-lanes.1)
