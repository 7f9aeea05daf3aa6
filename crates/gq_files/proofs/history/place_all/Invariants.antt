-- The operations so far are at their places, and those that are left as they were.
use Rattle.std.proofs.Common.{◌≡◌, map, take, drop}
use Rattle.gq_files.specs.Histories.{placed}
use Rattle.gq_files.proofs.history.place_all.Given as goal

abbrev pub invariant-loop-op : goal.invariant-loop-op
invariant-loop-op l = record {
  done : take l.op-index l.ops ≡ map (placed l.places) (take l.op-index l.fn.ops);
  left : drop l.op-index l.ops ≡ drop l.op-index l.fn.ops;
}
