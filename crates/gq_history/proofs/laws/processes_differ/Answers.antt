use Rattle.gq_history.proofs.Processes.{processes_differ}
use Rattle.gq_history.proofs.laws.processes_differ.Goals as goal

pub returns : goal.returns
returns c = processes_differ
