-- The lines so far, and those of the moments that are left.
use Rattle.std.proofs.Common.{◌≡◌, ◌++◌, drop}
use Rattle.gq_files.specs.Histories.{moments_text}
use Rattle.gq_files.proofs.history.put_moments.Given as goal

abbrev pub invariant-loop-index : goal.invariant-loop-index
invariant-loop-index l = l.out.items ++ moments_text l.first l.index l.ops (drop l.index l.moments) ≡ l.fn.out.items ++ moments_text l.first 0 l.ops l.moments
