use Rattle.gq_escape.proofs.Escaping.{lanes_none, lanes_some}
use Rattle.gq_escape.proofs.lanes_before.Goals as goal

pub returns-then-bits-eq0 : goal.returns-then-bits-eq0
returns-then-bits-eq0 c = lanes_none c.args.lanes c.args.byte c.fits-lanes.0 c.if-bits-eq0.true

pub returns-else-bits-eq0 : goal.returns-else-bits-eq0
returns-else-bits-eq0 c = lanes_some c.args.lanes c.args.byte c.fits-lanes.0 c.if-bits-eq0.false
