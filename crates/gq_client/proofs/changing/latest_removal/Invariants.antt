use Rattle.std.proofs.Common.{◌≡◌, drop}
use Rattle.gq_client.specs.Changing.{latest_removal}
use Rattle.gq_client.proofs.changing.latest_removal.Given as goal

abbrev pub invariant-loop-line : goal.invariant-loop-line
invariant-loop-line l = latest_removal l.latest (drop l.line-index l.lines) ≡ latest_removal 0 l.lines
