-- One more column.
use Rattle.std.proofs.Common.{◌≡◌, ◌∙◌, ◌<◌, sym, arith}
use Rattle.gq_grid.specs.Sets.{servers}
use Rattle.gq_grid.proofs.Ranges.{find_more}
use Rattle.gq_node.specs.Columns.{stands_in}
use Rattle.gq_node.proofs.aims.column_among.Goals as goal

pub loop-first-preserved : goal.loop-first-preserved
loop-first-preserved c =
    let cols : c.cols-first-end.result ≡ c.args.grid.now.cols = c.cols-first-end.ensures.value in
    let below : c.loop-first.first < c.args.grid.now.cols = omega arith in
    find_more (stands_in c.args.grid.now (servers c.args.set)) c.loop-first.first c.args.grid.now.cols below (sym c.stands_in-in-loop-first.ensures ∙ c.if-stands_in-2.false) ∙ c.loop-first.invariant
