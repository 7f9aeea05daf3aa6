-- Each lane is compared, and its test is a bit.
use Rattle.gq_lines.proofs.Marking.{marked}
use Rattle.gq_lines.proofs.first_bytes.marks.Goals as goal

pub returns : goal.returns
returns c = marked c.args.text.now c.front.result c.equal_to.result c.args.byte c.top_bits.result c.front.ensures c.equal_to.ensures c.top_bits.ensures
