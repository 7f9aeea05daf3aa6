use Rattle.std.proofs.Common.{◌∙◌, sym}
use Rattle.gq_page.proofs.ReadingLemmas.{goes_on}
use Rattle.gq_page.proofs.reading.lines_said.Goals as goal

pub loop-rest-preserved : goal.loop-rest-preserved
loop-rest-preserved c =
    rw c.in_ok-grow.ensures.items
    (goes_on c.loop-rest.lines.items c.in-Some.line c.loop-rest.rest.now c.first_line.result.1.now c.first_line.result.0.now _ c.first_line.ensures.lines (sym c.in_ok-line.ensures ∙ c.in-Some.is) c.loop-rest.invariant)
