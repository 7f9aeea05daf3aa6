-- Of no place a form is noted.
use Rattle.std.proofs.Common.{None}
use Rattle.std.proofs.lemmas.List.{get_or-replicate}
use Rattle.gq_grid.specs.declared.TheConstants.{MOST_SERVERS}
use Rattle.gq_machine.proofs.machine.NodeMachine.new.Goals as goal

pub returns-clause-forms : goal.returns-clause-forms
returns-clause-forms c = λ place within. get_or-replicate MOST_SERVERS place None None within
