use Rattle.gq_live.proofs.Telling.{least-after}
use Rattle.gq_live.proofs.thread_ends.all_or_least.Goals as goal

pub returns-in-Err-clause-least : goal.returns-in-Err-clause-least
returns-in-Err-clause-least c = least-after _ _ _ _ c.in-Err.ensures.least c.least.ensures.least
