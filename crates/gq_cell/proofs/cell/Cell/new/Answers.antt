use Rattle.gq_cell.proofs.Beginning.{begins}
use Rattle.gq_cell.proofs.cell.Cell.new.Goals as goal

pub invariant_of-cell : goal.invariant_of-cell
invariant_of-cell g c = begins c.args.server c.open-served.result.0.total c.in_ok-store.store c.new-2.result.items c.args.plan.now c.open-served.ensures.total c.in_ok-store.ensures c.new-2.ensures.items
