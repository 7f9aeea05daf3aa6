-- One server more.
use Rattle.std.proofs.Common.{◌≡◌, ◌∙◌, sym, arith}
use Rattle.gq_grid.specs.Grid.{server_at}
use Rattle.gq_grid.specs.Sets.{servers}
use Rattle.gq_grid.proofs.Same.{with_more, same_servers, or-false}
use Rattle.gq_node.proofs.aims.add_column.Goals as goal

pub loop-row-init : goal.loop-row-init
loop-row-init c = same_servers _ _ (λ n. sym (or-false (servers c.args.set.now n)))

pub loop-row-preserved : goal.loop-row-preserved
loop-row-preserved c =
    let cols : c.cols-cols.result ≡ c.args.grid.now.cols = c.cols-cols.ensures.value in
    c.insert.ensures ∙ rw cols (with_more (λ x. server_at c.args.grid.now x c.args.col) (servers c.args.set.now) (servers c.loop-row.set) c.loop-row.row c.loop-row.invariant)

pub returns : goal.returns
returns c =
    let rows : c.loop-row.row ≡ c.args.grid.now.rows = omega arith in
    rw rows at c.loop-row.invariant
