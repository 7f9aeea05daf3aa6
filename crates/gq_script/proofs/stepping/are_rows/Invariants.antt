use Rattle.std.proofs.Common.{length}
use Rattle.gq_lines.specs.Lines.{lines_of}
use Rattle.gq_script.specs.Stepping.{MissesGo}
use Rattle.gq_script.proofs.stepping.are_rows.Given as goal

-- rows before rows
abbrev pub invariant-loop-rest : goal.invariant-loop-rest
invariant-loop-rest l = record { rows : MissesGo l.room (lines_of l.rest) → MissesGo l.room (lines_of l.fn.text) }

abbrev pub decreases-loop-rest : goal.decreases-loop-rest
decreases-loop-rest l = length l.rest
