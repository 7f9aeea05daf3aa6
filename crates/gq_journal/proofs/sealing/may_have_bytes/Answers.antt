use Rattle.std.proofs.Common.{◌∙◌}
use Rattle.gq_journal.proofs.Lines.{found_byte}
use Rattle.gq_journal.proofs.sealing.may_have_bytes.Goals as goal

pub returns : goal.returns
returns c = c.is_some.ensures ∙ found_byte 61 c.args.text.now c.memchr.result c.memchr.ensures
