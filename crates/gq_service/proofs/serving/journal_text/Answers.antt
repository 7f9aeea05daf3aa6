-- What is left while the journal is read.
use Rattle.gq_keeper.proofs.Instants.{elapses_none}
use Rattle.gq_service.proofs.serving.journal_text.Goals as goal

pub returns-then-is_new-clause-crash : goal.returns-then-is_new-clause-crash
returns-then-is_new-clause-crash g c = elapses_none _ _ _
