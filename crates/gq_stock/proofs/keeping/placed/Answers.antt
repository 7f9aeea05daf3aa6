use Rattle.std.proofs.Common.{length, sym, ◌∙◌}
use Rattle.gq_stock.proofs.Memory.{stays, goes}
use Rattle.gq_stock.proofs.keeping.placed.Goals as goal

pub returns-then-stays_fresh-clause-fresh : goal.returns-then-stays_fresh-clause-fresh
returns-then-stays_fresh-clause-fresh g c = stays (length c.args.bytes) c.len.result c.args.left c.len.ensures.value (sym c.stays_fresh.ensures ∙ c.if-stays_fresh.true)

pub returns-clause-fresh : goal.returns-clause-fresh
returns-clause-fresh g c = goes c.put_surely.result (length c.args.bytes) c.len.result c.args.left c.len.ensures.value (sym c.stays_fresh.ensures ∙ c.if-stays_fresh.false) c.put_surely.ensures.shelved
