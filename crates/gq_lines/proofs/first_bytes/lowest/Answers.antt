-- The lowest bit is the first that is set.
use Rattle.std.proofs.Common.{arith, w64}
use Rattle.std.proofs.lemmas.Nat.Bits.{bit_at-trailing_zeros, bit_at-zero}
use Rattle.gq_lines.proofs.first_bytes.lowest.Goals as goal

pub returns-then-bits-eq0-clause-below : goal.returns-then-bits-eq0-clause-below
returns-then-bits-eq0-clause-below c = λ k h. rw c.if-bits-eq0.true (bit_at-zero k)

pub returns-else-bits-eq0-clause-below : goal.returns-else-bits-eq0-clause-below
returns-else-bits-eq0-clause-below c = let h = bit_at-trailing_zeros w64 c.args.bits (omega (arith, c.if-bits-eq0.false)) c.ranges.bits.fits in h.2

pub returns-else-bits-eq0-clause-here : goal.returns-else-bits-eq0-clause-here
returns-else-bits-eq0-clause-here c = let h = bit_at-trailing_zeros w64 c.args.bits (omega (arith, c.if-bits-eq0.false)) c.ranges.bits.fits in λ _. h.1
