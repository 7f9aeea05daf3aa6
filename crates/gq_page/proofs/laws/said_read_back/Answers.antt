use Rattle.std.specs.Prelude.{Some}
use Rattle.gq_page.specs.declared.form.Form.TheVariants.{Begin}
use Rattle.gq_page.proofs.Cuts.{said_then}
use Rattle.gq_page.proofs.laws.said_read_back.Goals as goal

pub returns : goal.returns
returns c = said_then (Some Begin)
