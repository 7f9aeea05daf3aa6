use Rattle.std.proofs.Common.{◌≡◌, drop, None, option_map}
use Rattle.gq_client.specs.Looking.{page_in, shown_from}
use Rattle.gq_client.proofs.view.greatest_shown.Given as goal

abbrev pub invariant-loop-session : goal.invariant-loop-session
invariant-loop-session l = shown_from l.session l.own (page_in l.journal) l.name (drop l.session l.seen) (option_map (λ found. (found.0, found.1.now)) l.greatest) ≡ shown_from 0 l.own (page_in l.journal) l.name l.seen None
