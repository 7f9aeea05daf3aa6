use Rattle.std.proofs.Common.{◌≡◌, drop}
use Rattle.gq_page.specs.Page.{sheet_of}
use Rattle.gq_client.specs.Changing.{highest_from, highest_seen}
use Rattle.gq_client.proofs.changing.highest_seen.Given as goal

abbrev pub invariant-loop-session : goal.invariant-loop-session
invariant-loop-session l = highest_from l.session l.own (drop l.session l.seen) l.highest ≡ highest_seen l.seen l.own (sheet_of l.journal)
