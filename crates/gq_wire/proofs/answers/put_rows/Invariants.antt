use Rattle.std.proofs.Common.{◌≡◌, ◌++◌, take, map}
use Rattle.gq_lines.specs.Written.{spaced}
use Rattle.gq_wire.specs.Texts.{held_word}
use Rattle.gq_wire.proofs.answers.put_rows.Given as goal

abbrev pub invariant-loop-row : goal.invariant-loop-row
invariant-loop-row l = l.out.items ≡ l.fn.out.items ++ spaced (map held_word (take l.row-index l.rows))
