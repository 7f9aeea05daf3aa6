-- A row is of the word where one is found.
use Rattle.std.proofs.Common.{◌∙◌, ap}
use Rattle.std.specs.Prelude.{is_some}
use Rattle.gq_desk.specs.Plans.{is_of}
use Rattle.gq_desk.proofs.NamesOfRows.{is_found}
use Rattle.gq_desk.proofs.rows.Rows.has.Goals as goal

pub returns : goal.returns
returns c = c.is_some.ensures ∙ ap is_some c.place.ensures.place ∙ is_found (is_of c.args.word.now) 0 c.args.self.now
