-- The sessions so far, and those of the events that are left.
use Rattle.std.proofs.Common.{◌≡◌, ◌++◌, [], drop}
use Rattle.gq_order.specs.Passes.{sessions_from}
use Rattle.gq_order.proofs.sessions.sessions_of.Given as goal

abbrev pub invariant-loop-place : goal.invariant-loop-place
invariant-loop-place l = l.sessions.items ++ sessions_from l.tenant l.owned.items (drop l.place l.events) (drop l.place l.answers) ≡ sessions_from l.tenant [] l.events l.answers
