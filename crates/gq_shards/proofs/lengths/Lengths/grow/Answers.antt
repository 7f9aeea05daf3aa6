use Rattle.std.proofs.Common.{arith}
use Rattle.gq_shards.proofs.Listing.{on_ok, short_more}
use Rattle.gq_shards.proofs.lengths.Lengths.grow.Goals as goal

pub returns-then-text : goal.returns-then-text
returns-then-text c = on_ok c.grow.result (λ ok lengths are. rw (rw ok at c.grow.ensures.items) (short_more _ _ lengths _ are (omega (arith, c.if-text.true))))
