use Rattle.std.proofs.Common.{◌≡◌, ◌++◌, take, map}
use Rattle.gq_lines.specs.Written.{spaced}
use Rattle.gq_wire.specs.Texts.{volume_word}
use Rattle.gq_wire.proofs.answers.put_volumes.Given as goal

abbrev pub invariant-loop-volume : goal.invariant-loop-volume
invariant-loop-volume l = l.out.items ≡ l.fn.out.items ++ spaced (map volume_word (take l.volume-index l.volumes))
