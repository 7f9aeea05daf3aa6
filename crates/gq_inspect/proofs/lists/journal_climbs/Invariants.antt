use Rattle.std.proofs.Common.{◌≡◌, None, drop, map}
use Rattle.gq_cell.specs.Journal.{stamp_of}
use Rattle.gq_inspect.specs.Lists.{climb_after}
use Rattle.gq_inspect.proofs.lists.journal_climbs.Given as goal

abbrev pub invariant-loop-entry : goal.invariant-loop-entry
invariant-loop-entry l = climb_after l.last (map stamp_of (drop l.entry-index l.entries)) ≡ climb_after None (map stamp_of l.entries)
