-- The lanes are the bytes.
use Rattle.std.proofs.lemmas.List.{length-take-le}
use Rattle.gq_lines.proofs.Marking.{get_or-take-here}
use Rattle.gq_lines.proofs.first_bytes.front.Goals as goal

pub returns : goal.returns
returns c = record { long = length-take-le 32 c.args.text.now c.requires; each = λ k l. get_or-take-here 32 k c.args.text.now l }
