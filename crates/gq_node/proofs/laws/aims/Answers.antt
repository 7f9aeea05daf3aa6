-- Whom a session asks has a full row and a full column.
use Rattle.gq_node.proofs.Aiming.{all_aims_have_quorums}
use Rattle.gq_node.proofs.NoQuorum.{all_requests_have_quorums}
use Rattle.gq_node.proofs.laws.aims.Goals as goal

pub returns : goal.returns
returns c = record { quorums = all_aims_have_quorums; requests = all_requests_have_quorums }
