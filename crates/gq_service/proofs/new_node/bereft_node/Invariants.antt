use Rattle.std.proofs.Common.{◌≡◌, false}
use Rattle.gq_setup.specs.Laws.{here_of}
use Rattle.gq_service.specs.Serving.{first_of_read}
use Rattle.gq_service.proofs.NewNodes.{Bereft}
use Rattle.gq_service.proofs.new_node.bereft_node.Given as goal

-- the tenants so far lack what they have to
abbrev pub invariant-loop-place : goal.invariant-loop-place
invariant-loop-place l = record {
  bereft : Bereft l.this.plan.setup.plan (here_of l.this.number l.this.plan.setup) l.this.plan.setup.openings (first_of_read l.before) l.place l.node.tables;
  has_memory : l.node.ended ≡ false;
}
