use Rattle.std.proofs.Common.{◌≡◌, length}
use Rattle.gq_live.proofs.serving.add_all.Given as goal

abbrev pub invariant-loop-opening : goal.invariant-loop-opening
invariant-loop-opening g l = (l.cell.accounts ≡ l.desk) × (length l.desk ≡ length l.plan.rows)
