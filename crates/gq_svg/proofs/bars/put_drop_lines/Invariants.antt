use Rattle.std.proofs.Common.{◌≡◌, ◌++◌, take}
use Rattle.std.specs.List.{flat_map}
use Rattle.gq_svg.specs.Bars.{drop_in}
use Rattle.gq_svg.proofs.bars.put_drop_lines.Given as goal

-- the lines so far are appended
abbrev pub invariant-loop-bar : goal.invariant-loop-bar
invariant-loop-bar l = l.out.items ≡ l.fn.out.items ++ flat_map (drop_in l.ops) (take l.bar-index l.bars)
