use Rattle.std.proofs.Common.{◌≡◌, ◌++◌, drop}
use Rattle.gq_inspect.specs.Lists.{flips}
use Rattle.gq_inspect.proofs.lists.flips.Given as goal

abbrev pub invariant-loop-entry : goal.invariant-loop-entry
invariant-loop-entry l = l.all.items ++ flips (drop l.entry-index l.entries) ≡ flips l.entries
