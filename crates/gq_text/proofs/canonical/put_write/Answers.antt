use Rattle.std.proofs.Common.{arith}
use Rattle.gq_text.proofs.canonical.put_write.Goals as goal

pub returns-clause-fits : goal.returns-clause-fits
returns-clause-fits c = λ i. let f = c.type_inv.bytes i in omega arith
