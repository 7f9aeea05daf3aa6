use Rattle.std.proofs.Common.{◌≡◌, ◌-◌, ◌<◌, ◌++◌, ℕ, vec_len, length, get_or, drop}
use Rattle.gq_lines.specs.Lines.{lines_of}
use Rattle.gq_shards.specs.declared.ways.Way.{Way}
use Rattle.gq_shards.specs.Shards.{marks_of, gaps_of}
use Rattle.gq_shards.proofs.Going.{Goes}
use Rattle.gq_shards.proofs.dealing.deal.Given as goal

abbrev pub invariant-loop-place : goal.invariant-loop-place
invariant-loop-place l = record {
  marks : l.marks.items ++ marks_of l.fn.plan l.fn.shards (lines_of (drop l.place l.fn.lines)) ≡ marks_of l.fn.plan l.fn.shards (lines_of l.fn.lines);
  size : vec_len l.ways ≡ l.fn.shards;
  ways : (k : ℕ) (d : Way) → k < l.fn.shards
      → Goes k (get_or l.ways.items k d) l.place (marks_of l.fn.plan l.fn.shards (lines_of (drop l.place l.fn.lines))) (lines_of (drop l.place l.fn.lines)) (gaps_of k 0 (marks_of l.fn.plan l.fn.shards (lines_of l.fn.lines)) (lines_of l.fn.lines));
}

abbrev pub decreases-loop-place : goal.decreases-loop-place
decreases-loop-place l = length l.fn.lines - l.place
