use Rattle.std.proofs.Common.{◌≡◌, drop}
use Rattle.gq_client.specs.Changing.{is_among}
use Rattle.gq_client.proofs.changing.is_among.Given as goal

abbrev pub invariant-loop-name : goal.invariant-loop-name
invariant-loop-name l = is_among (drop l.name-index l.names) l.line ≡ is_among l.names l.line
