use Rattle.std.proofs.Common.{◌≡◌, false, take}
use Rattle.gq_setup.specs.Laws.{here_of}
use Rattle.gq_service.proofs.NewNodes.{HasOpen}
use Rattle.gq_service.proofs.new_node.open_node.Given as goal

abbrev pub invariant-loop-opening : goal.invariant-loop-opening
invariant-loop-opening l = record {
  has : HasOpen l.this.plan.setup.plan (here_of l.this.number l.this.plan.setup) (take l.opening-index l.this.plan.setup.openings) l.node.tables;
  has_memory : l.node.ended ≡ false;
}
