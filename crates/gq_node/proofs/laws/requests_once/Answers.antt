-- A request takes effect once.
use Rattle.gq_node.proofs.Again.{all_begin_later}
use Rattle.gq_node.proofs.Beginning.{begin_once, begin_named}
use Rattle.gq_node.proofs.Once.{again_leave, take_once}
use Rattle.gq_node.proofs.laws.requests_once.Goals as goal

pub returns : goal.returns
returns c = record { again = again_leave; once = take_once; begin = begin_once; named = begin_named; later = all_begin_later }
