-- The volumes so far are open, and the rest can be.
use Rattle.gq_setup.proofs.Remaining.{OpensRest}
use Rattle.gq_setup.proofs.leaving.open_all.Given as goal

abbrev pub invariant-loop-opening : goal.invariant-loop-opening
invariant-loop-opening l = OpensRest l.fn.desk l.openings l.opening-index l.desk
