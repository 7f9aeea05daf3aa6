use Rattle.gq_shards.proofs.Listing.{short_next, long_next}
use Rattle.gq_shards.proofs.lengths.Lengths.next_length.Goals as goal

pub returns-then-near-lt-FAR : goal.returns-then-near-lt-FAR
returns-then-near-lt-FAR c = λ length lengths left. short_next c.args.self.now c.args.place c.index-near.result.now length lengths left c.index-near.ensures c.if-near-lt-FAR.true

pub returns : goal.returns
returns c = λ length lengths left. long_next c.args.self.now c.args.place c.index-near.result.now c.index.result.now length lengths left c.index-near.ensures c.if-near-lt-FAR.false c.index.ensures
