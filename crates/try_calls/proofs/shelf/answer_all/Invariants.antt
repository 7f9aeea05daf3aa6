use Rattle.std.proofs.Common.{length}
use Rattle.try_calls.proofs.shelf.answer_all.Given as goal

abbrev pub decreases-loop-rest : goal.decreases-loop-rest
decreases-loop-rest g l = length l.rest
