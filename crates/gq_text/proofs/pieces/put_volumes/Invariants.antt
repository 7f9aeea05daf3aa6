use Rattle.std.proofs.Common.{◌≡◌, ◌++◌, take, map}
use Rattle.gq_lines.specs.Written.{spaced}
use Rattle.gq_text.specs.AnswerText.{volume_word}
use Rattle.gq_text.proofs.pieces.put_volumes.Given as goal

abbrev pub invariant-loop-volume : goal.invariant-loop-volume
invariant-loop-volume l = l.out.items ≡ l.fn.out.items ++ spaced (map volume_word (take l.volume-index l.volumes))
