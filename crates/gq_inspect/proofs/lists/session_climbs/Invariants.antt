use Rattle.std.proofs.Common.{◌≡◌, None, drop, map}
use Rattle.gq_session.specs.declared.records.SessionEntry.{SessionEntry}
use Rattle.gq_inspect.specs.Lists.{climb_after}
use Rattle.gq_inspect.proofs.lists.session_climbs.Given as goal

abbrev pub invariant-loop-entry : goal.invariant-loop-entry
invariant-loop-entry l = climb_after l.last (map (λ (e : SessionEntry). e.stamp) (drop l.entry-index l.entries)) ≡ climb_after None (map (λ (e : SessionEntry). e.stamp) l.entries)
