use Rattle.std.proofs.Common.{◌≡◌, ◌++◌}
use Rattle.gq_shards.proofs.dealing.together.Given as goal

abbrev pub invariant-loop-section : goal.invariant-loop-section
invariant-loop-section l = l.sections.items ++ l.section-iterator.rest.items ≡ l.fn.front.sections.items ++ l.fn.back.sections.items
