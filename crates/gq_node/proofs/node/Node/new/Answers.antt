-- A node that was never started.
use Rattle.gq_node.proofs.Starting.{first_stand, first_agrees}
use Rattle.gq_node.proofs.node.Node.new.Goals as goal

pub invariant_of-result : goal.invariant_of-result
invariant_of-result c = λ goes. first_stand c.args.plan (record { node = c.args.node; lost = c.args.lost }) c.in_ok-tables.tables c.in_ok-tables.ensures

pub returns-clause-agrees : goal.returns-clause-agrees
returns-clause-agrees c = λ t within. first_agrees c.args.plan (record { node = c.args.node; lost = c.args.lost }) c.in_ok-tables.tables t c.in_ok-tables.ensures within
