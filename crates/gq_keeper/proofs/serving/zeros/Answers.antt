use Rattle.std.proofs.Common.{arith}
use Rattle.gq_keeper.proofs.serving.zeros.Goals as goal

pub returns : goal.returns
returns c = let h = c.in_ok-grow_to.ensures.items in let l = c.in_ok-grow_to.ensures.len in omega (arith, l, c.grow_to.new.self.ok.0)
