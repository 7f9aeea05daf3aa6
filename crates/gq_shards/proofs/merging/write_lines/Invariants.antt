use Rattle.std.proofs.Common.{◌≡◌, false, ℕ, List, drop}
use Rattle.gq_streams.specs.Watched.{inner_of, has_failed}
use Rattle.gq_shards.specs.Shards.{waiting, AreTold}
use Rattle.gq_shards.proofs.Lefts.{Going}
use Rattle.gq_shards.proofs.merging.write_lines.Given as goal

abbrev pub invariant-loop-mark : goal.invariant-loop-mark
invariant-loop-mark g l = record {
  fine : has_failed l.writer ≡ false;
  going : (lines : List (List ℕ)) → AreTold l.fn.marks lines l.fn.all
      → Going (g.W.Write.contents (inner_of l.fn.writer)) (g.W.Write.contents (inner_of l.writer)) (waiting l.chunk) l.fn.all l.places (drop l.mark-index l.fn.marks) (drop l.mark-index lines) lines;
}
