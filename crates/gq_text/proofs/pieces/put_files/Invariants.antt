use Rattle.std.proofs.Common.{◌≡◌, ◌++◌, take, map}
use Rattle.gq_lines.specs.Written.{spaced}
use Rattle.gq_text.specs.AnswerText.{file_word}
use Rattle.gq_text.proofs.pieces.put_files.Given as goal

abbrev pub invariant-loop-file : goal.invariant-loop-file
invariant-loop-file l = l.out.items ≡ l.fn.out.items ++ spaced (map file_word (take l.file-index l.files))
