use Rattle.std.proofs.Common.{length}
use Rattle.try_names.proofs.words.seen_in.Given as goal

abbrev pub decreases-loop-rest : goal.decreases-loop-rest
decreases-loop-rest l = length l.rest
