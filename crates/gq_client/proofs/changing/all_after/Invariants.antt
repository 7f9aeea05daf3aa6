use Rattle.std.proofs.Common.{◌≡◌, ◌++◌, drop}
use Rattle.gq_page.specs.Page.{sheet_of}
use Rattle.gq_client.specs.Changing.{after_from}
use Rattle.gq_client.proofs.changing.all_after.Given as goal

abbrev pub invariant-loop-session : goal.invariant-loop-session
invariant-loop-session l = l.after.items ++ after_from l.session l.own (sheet_of l.journal) l.fates (drop l.session l.seen) ≡ after_from 0 l.own (sheet_of l.journal) l.fates l.seen
