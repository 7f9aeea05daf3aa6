-- One more server of the column.
use Rattle.std.proofs.Common.{◌≡◌, ◌∙◌, ◌<◌, sym, ap, arith, false}
use Rattle.gq_grid.specs.Grid.{server_at}
use Rattle.gq_grid.specs.Sets.{servers}
use Rattle.gq_node.proofs.Aiming.{list_any_more}
use Rattle.gq_node.proofs.aims.stands_in.Goals as goal

pub loop-row-preserved : goal.loop-row-preserved
loop-row-preserved c =
    let cols : c.cols-cols.result ≡ c.args.grid.now.cols = c.cols-cols.ensures.value in
    let rows : c.rows-row-end.result ≡ c.args.grid.now.rows = c.rows-row-end.ensures.value in
    let below : c.loop-row.row < c.args.grid.now.rows = omega arith in
    let none : servers c.args.set (server_at c.args.grid.now c.loop-row.row c.args.column) ≡ false = rw (← cols) (sym c.has.ensures ∙ c.if-has.false) in
    list_any_more (λ r. servers c.args.set (server_at c.args.grid.now r c.args.column)) c.loop-row.row c.args.grid.now.rows below none ∙ c.loop-row.invariant
