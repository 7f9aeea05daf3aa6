-- One server more.
use Rattle.std.proofs.Common.{◌≡◌, ◌∙◌, arith}
use Rattle.gq_grid.specs.Grid.{server_at, no_servers}
use Rattle.gq_grid.specs.Sets.{servers}
use Rattle.gq_grid.proofs.Same.{with_more}
use Rattle.gq_node.proofs.aims.row_set.Goals as goal

pub loop-col-init : goal.loop-col-init
loop-col-init c = c.empty-set.ensures.none

pub loop-col-preserved : goal.loop-col-preserved
loop-col-preserved c =
    let cols : c.cols-cols.result ≡ c.args.grid.now.cols = c.cols-cols.ensures.value in
    c.insert.ensures ∙ rw cols (with_more (λ x. server_at c.args.grid.now c.args.row x) no_servers (servers c.loop-col.set) c.loop-col.col c.loop-col.invariant)

pub returns : goal.returns
returns c =
    let cols : c.loop-col.col ≡ c.args.grid.now.cols = omega arith in
    rw cols at c.loop-col.invariant
