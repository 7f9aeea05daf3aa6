use Rattle.std.proofs.Common.{arith}
use Rattle.std.proofs.lemmas.Result.{on_ok_weaker}
use Rattle.gq_setup.proofs.Reading.{node_tells}
use Rattle.gq_setup.proofs.node_plan.put_node_text.Goals as goal

pub returns-clause-back : goal.returns-clause-back
returns-clause-back c =
    on_ok_weaker c.put_text.result (node_tells c.args.number c.args.setup.now (omega arith) c.in_ok-put_head.ensures.rows c.in_ok-put_head.ensures.cols) c.put_text.ensures.back
