use Rattle.std.proofs.Common.{ℕ, ◌<◌, List, get_or}
use Rattle.gq_session.specs.declared.records.SessionEntry.{SessionEntry}
use Rattle.gq_inspect.specs.Lists.{SessionClimbs}
use Rattle.gq_inspect.proofs.lists.sessions_climb.Given as goal

abbrev pub invariant-loop-place : goal.invariant-loop-place
invariant-loop-place l = (k : ℕ) (d : List SessionEntry) → k < l.place → SessionClimbs (get_or l.sessions k d)
