use Rattle.std.proofs.Common.{◌≡◌, drop}
use Rattle.gq_client.specs.Looking.{page_in, most_from}
use Rattle.gq_client.proofs.view.most_asked.Given as goal

abbrev pub invariant-loop-other : goal.invariant-loop-other
invariant-loop-other l = most_from l.other l.own (page_in l.journal) l.session (drop l.other l.seen) l.most ≡ most_from 0 l.own (page_in l.journal) l.session l.seen 0
