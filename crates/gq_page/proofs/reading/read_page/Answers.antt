use Rattle.std.proofs.Common.{◌≡◌, Option, subst, option_map, IfOk}
use Rattle.gq_page.specs.Page.{Sheet, sheet_of}
use Rattle.gq_page.proofs.ReadingLemmas.{no_page, page_of_lines}
use Rattle.gq_page.proofs.reading.read_page.Goals as goal

pub returns-in_default : goal.returns-in_default
returns-in_default c = no_page c.args.text.now c.in-len1-up.len_at_least c.if-last-eq10.false

pub returns-in-len1-up : goal.returns-in-len1-up
returns-in-len1-up c =
    subst (λ (page : Option Sheet). IfOk c.page_headed.result (λ read. option_map sheet_of read ≡ page))
    (page_of_lines c.args.text.now c.first_line.result.0.now c.first_line.result.1.now c.in-len1-up.len_at_least c.if-last-eq10.true c.first_line.ensures.lines)
    c.page_headed.ensures
