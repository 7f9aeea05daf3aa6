use Rattle.std.proofs.Common.{◌≡◌, length}
use Rattle.gq_lines.specs.Lines.{lines_of}
use Rattle.gq_page.specs.Text.{lines_said}
use Rattle.gq_page.proofs.Fronts.{in_front}
use Rattle.gq_page.proofs.reading.lines_said.Given as goal

abbrev pub decreases-loop-rest : goal.decreases-loop-rest
decreases-loop-rest l = length l.rest

-- the lines so far and those of the rest are those of the whole
abbrev pub invariant-loop-rest : goal.invariant-loop-rest
invariant-loop-rest l = in_front l.lines.items (lines_said (lines_of l.rest)) ≡ lines_said (lines_of l.text)
