use Rattle.std.proofs.Common.{◌≡◌, drop}
use Rattle.std.specs.List.{list_any}
use Rattle.gq_client.specs.Changing.{asks_for}
use Rattle.gq_client.proofs.changing.is_asked.Given as goal

abbrev pub invariant-loop-fate : goal.invariant-loop-fate
invariant-loop-fate l = list_any (asks_for l.own l.session) (drop l.fate-index l.fates) ≡ list_any (asks_for l.own l.session) l.fates
