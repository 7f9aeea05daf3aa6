use Rattle.std.proofs.Common.{◌≡◌, drop, None}
use Rattle.gq_client.specs.Changing.{greatest_from}
use Rattle.gq_client.proofs.changing.greatest_beside.Given as goal

abbrev pub invariant-loop-session : goal.invariant-loop-session
invariant-loop-session l = greatest_from l.session l.own l.name (drop l.session l.seen) l.greatest ≡ greatest_from 0 l.own l.name l.seen None
