use Rattle.std.proofs.Common.{◌≡◌, ◌++◌, drop}
use Rattle.gq_svg.specs.Bars.{bars_text}
use Rattle.gq_svg.proofs.bars.put_bars.Given as goal

-- the bars so far, and those that are left
abbrev pub invariant-loop-index : goal.invariant-loop-index
invariant-loop-index l = l.out.items ++ bars_text l.are_open l.first l.ops l.index (drop l.index l.bars) ≡ l.fn.out.items ++ bars_text l.are_open l.first l.ops 0 l.bars
