-- Those of the setup that was read.
use Rattle.std.proofs.Common.{◌∙◌, sym, ap}
use Rattle.gq_service.specs.Serving.{first_of_read}
use Rattle.gq_service.proofs.new_node.losses_before.Goals as goal

pub returns-in-Some : goal.returns-in-Some
returns-in-Some c = λ t. c.losses.ensures ∙ sym (ap (λ read. (first_of_read read t).losses) c.in-Some.is)

pub returns-in-None : goal.returns-in-None
returns-in-None c = λ t. sym (ap (λ read. (first_of_read read t).losses) c.in-None.is)
