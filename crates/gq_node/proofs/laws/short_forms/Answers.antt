-- What goes out in a short form stands for a letter that is written.
use Rattle.gq_node.proofs.Forming.{forms_stand, shorts_are_written}
use Rattle.gq_node.proofs.laws.short_forms.Goals as goal

pub returns : goal.returns
returns c = record { forms = forms_stand; written = shorts_are_written }
