use Rattle.std.proofs.Common.{◌≡◌, ◌+◌, ◌-◌, ◌++◌, List, ℕ, drop, length}
use Rattle.gq_lines.specs.Lines.{lines_of}
use Rattle.gq_shards.specs.Shards.{marks_of, gaps_of, lines_of_sections, AreDealt, AreLeft}
use Rattle.gq_shards.proofs.Seeing.{Tells}
use Rattle.gq_shards.proofs.telling.told_by.Given as goal

abbrev pub invariant-loop-section : goal.invariant-loop-section
invariant-loop-section l = record {
  grid : l.quorum.grid ≡ l.world.tables.plan.grid;
  told : (lines : List (List ℕ)) → AreDealt l.fn.plan l.fn.shards lines l.fn.dealt
      → Tells l.fn.shards l.fn.shard l.fn.plan l.world.tables l.told.text.items l.told.lengths (lines_of_sections (drop l.section-index l.fn.dealt.sections.items)) lines;
}

abbrev pub invariant-loop-place : goal.invariant-loop-place
invariant-loop-place l = record {
  grid : l.quorum.grid ≡ l.world.tables.plan.grid;
  left : AreLeft l.gaps l.place (gaps_of l.fn.shard 0 (marks_of l.fn.plan l.fn.shards (lines_of l.rest)) (lines_of l.rest));
  told : (lines : List (List ℕ)) → AreDealt l.fn.plan l.fn.shards lines l.fn.dealt
      → Tells l.fn.shards l.fn.shard l.fn.plan l.world.tables l.told.text.items l.told.lengths (lines_of l.rest ++ lines_of_sections (drop (l.section-index + 1) l.fn.dealt.sections.items)) lines;
}

abbrev pub decreases-loop-place : goal.decreases-loop-place
decreases-loop-place l = length l.gaps.near.items - l.place.near
