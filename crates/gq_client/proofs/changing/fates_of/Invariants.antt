use Rattle.std.proofs.Common.{◌≡◌, take, map}
use Rattle.gq_client.specs.Changing.{fate_of, name_said, said_in}
use Rattle.gq_client.proofs.changing.fates_of.Given as goal

abbrev pub invariant-loop-line : goal.invariant-loop-line
invariant-loop-line l = l.fates.items ≡ map (fate_of l.seen l.own (name_said (said_in l.change.line)) l.change.besides.items) (take l.line-index l.lines)
