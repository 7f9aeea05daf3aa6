use Rattle.std.proofs.Common.{◌≡◌, ◌++◌, take}
use Rattle.std.specs.List.{flat_map}
use Rattle.gq_lines.specs.Written.{spaced}
use Rattle.gq_text.specs.Pieces.{words_in}
use Rattle.gq_text.proofs.pieces.put_pieces.Given as goal

abbrev pub invariant-loop-piece : goal.invariant-loop-piece
invariant-loop-piece l = l.out.items ≡ l.fn.out.items ++ spaced (flat_map words_in (take l.piece-index l.pieces))
