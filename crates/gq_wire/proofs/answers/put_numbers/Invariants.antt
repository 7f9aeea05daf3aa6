use Rattle.std.proofs.Common.{◌≡◌, ◌++◌, take, map, decimal}
use Rattle.gq_lines.specs.Written.{spaced}
use Rattle.gq_wire.proofs.answers.put_numbers.Given as goal

abbrev pub invariant-loop-number : goal.invariant-loop-number
invariant-loop-number l = l.out.items ≡ l.fn.out.items ++ spaced (map decimal (take l.number-index l.numbers))
