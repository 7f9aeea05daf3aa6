-- The requests so far.
use Rattle.std.proofs.Common.{◌≡◌, take}
use Rattle.gq_live.proofs.starts.copy_lines.Given as goal

abbrev pub invariant-loop-line : goal.invariant-loop-line
invariant-loop-line l = l.all.items ≡ take l.line-index l.lines
