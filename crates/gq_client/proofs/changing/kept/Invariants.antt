use Rattle.std.proofs.Common.{◌≡◌, ◌++◌, drop}
use Rattle.gq_client.specs.Changing.{kept_by}
use Rattle.gq_client.proofs.changing.kept.Given as goal

abbrev pub invariant-loop-i : goal.invariant-loop-i
invariant-loop-i l = l.kept.items ++ kept_by (drop l.i l.lines) (drop l.i l.fates) ≡ kept_by l.lines l.fates
