-- So many were added.
use Rattle.std.proofs.Common.{◌≡◌, ◌++◌}
use Rattle.std.specs.Prelude.{replicate}
use Rattle.gq_order.proofs.sessions.give_to.Given as goal

abbrev pub invariant-loop : goal.invariant-loop
invariant-loop l = l.owned.items ≡ l.initial.owned.items ++ replicate l.counter l.session
