use Rattle.std.proofs.Common.{◌≡◌, length, drop}
use Rattle.gq_live.specs.Openings.{first_refused, refused_volume}
use Rattle.gq_live.proofs.starts.open_all.Given as goal

abbrev pub invariant-loop-place : goal.invariant-loop-place
invariant-loop-place l = record {
  accounts : length l.desk ≡ length l.plan.rows;
  same : refused_volume l.plan l.volumes ≡ first_refused l.desk l.place (drop l.place l.volumes);
}
