-- The files so far.
use Rattle.std.proofs.Common.{◌≡◌, ◌*◌, ◌^◌, ◌≤◌, take}
use Rattle.gq_plan.specs.PlanWords.{files_of}
use Rattle.gq_plan.proofs.sums.files_of.Given as goal

abbrev pub invariant-loop-volume : goal.invariant-loop-volume
invariant-loop-volume l = record {
  told : l.files ≡ files_of (take l.volume-index l.volumes);
  bound : l.files ≤ l.volume-index * 2 ^ 32;
}
