use Rattle.gq_order.proofs.Growing.{runs-grow}
use Rattle.gq_order.proofs.run.runs_grow.Goals as goal

pub returns : goal.returns
returns c = runs-grow
