use Rattle.gq_wire.proofs.Torn.{torn_lines_have_no_form}
use Rattle.gq_wire.proofs.laws.torn_lines_have_no_form.Goals as goal

pub returns : goal.returns
returns c = torn_lines_have_no_form
