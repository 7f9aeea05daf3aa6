use Rattle.std.proofs.Common.{◌≡◌, ◌++◌, drop}
use Rattle.gq_client.specs.Looking.{page_in, wanted_from}
use Rattle.gq_client.proofs.view.asked.Given as goal

abbrev pub invariant-loop-session : goal.invariant-loop-session
invariant-loop-session l = l.wanted.items ++ wanted_from l.session l.own (page_in l.journal) l.seen (drop l.session l.seen) ≡ wanted_from 0 l.own (page_in l.journal) l.seen l.seen
