use Rattle.std.proofs.Common.{◌≡◌, length}
use Rattle.gq_quote.specs.Quote.{unquoted}
use Rattle.gq_quote.proofs.Quoting.{prefixed}
use Rattle.gq_quote.proofs.read_quoted.Given as goal

abbrev pub invariant-marks : goal.invariant-marks
invariant-marks l = unquoted l.text ≡ prefixed l.bytes.items (unquoted l.rest)

abbrev pub decreases-marks : goal.decreases-marks
decreases-marks l = length l.rest
