use Rattle.std.proofs.Common.{◌≡◌, ◌++◌, drop}
use Rattle.gq_split.specs.Split.{lines_inside}
use Rattle.gq_split.proofs.part.part_of.Given as goal

abbrev pub invariant-loop-line : goal.invariant-loop-line
invariant-loop-line g l = l.lines.items ++ lines_inside (g.B.Bucket.has l.bucket) (drop l.line-index l.page.lines.items) ≡ lines_inside (g.B.Bucket.has l.bucket) l.page.lines.items
