use Rattle.gq_shards.proofs.Listing.{on_ok, long_more}
use Rattle.gq_shards.proofs.lengths.Lengths.grow_far.Goals as goal

pub returns : goal.returns
returns c = on_ok c.grow_length.result (λ ok lengths are. rw (c.in_ok-grow.ensures.items, rw ok at c.grow_length.ensures.items) (long_more _ _ lengths _ are c.requires))
