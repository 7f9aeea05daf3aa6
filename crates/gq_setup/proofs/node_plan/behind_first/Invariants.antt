use Rattle.std.proofs.Common.{◌≡◌, drop}
use Rattle.gq_setup.specs.Texts.{behind_first}
use Rattle.gq_setup.proofs.node_plan.behind_first.Given as goal

abbrev pub invariant-loop-i : goal.invariant-loop-i
invariant-loop-i l = behind_first (drop l.i l.text) ≡ behind_first l.text
