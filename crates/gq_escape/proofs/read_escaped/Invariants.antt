use Rattle.std.proofs.Common.{◌≡◌, length}
use Rattle.gq_escape.specs.Escape.{unescaped}
use Rattle.gq_escape.proofs.Escaping.{prefixed}
use Rattle.gq_escape.proofs.read_escaped.Given as goal

abbrev pub invariant-marks : goal.invariant-marks
invariant-marks l = unescaped l.text ≡ prefixed l.bytes.items (unescaped l.rest)

abbrev pub decreases-marks : goal.decreases-marks
decreases-marks l = length l.rest
