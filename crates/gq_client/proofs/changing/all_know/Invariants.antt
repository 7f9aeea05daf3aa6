use Rattle.std.proofs.Common.{◌≡◌, drop}
use Rattle.gq_client.specs.Changing.{all_know_from}
use Rattle.gq_client.proofs.changing.all_know.Given as goal

abbrev pub invariant-loop-session : goal.invariant-loop-session
invariant-loop-session l = all_know_from l.session l.own l.number (drop l.session l.seen) ≡ all_know_from 0 l.own l.number l.seen
