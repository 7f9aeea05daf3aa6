-- The outages so far, and those of the absences that are left.
use Rattle.std.proofs.Common.{◌≡◌, ◌++◌, List, drop, map}
use Rattle.gq_laws.specs.declared.ops.Op.{Op}
use Rattle.gq_picture.specs.Counts.{AreColumns}
use Rattle.gq_picture.specs.Drawing.{outage_of}
use Rattle.gq_picture.proofs.drawing.outages.Given as goal

abbrev pub invariant-loop-absence : goal.invariant-loop-absence
invariant-loop-absence l = (seq : List Op) → AreColumns seq l.columns → l.drawn.items ++ map (outage_of seq) (drop l.absence-index l.absences) ≡ map (outage_of seq) l.absences
