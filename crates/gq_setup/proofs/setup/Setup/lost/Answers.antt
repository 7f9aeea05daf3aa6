-- No more may be lost.
use Rattle.std.proofs.Common.{[], ◌≤◌, arith}
use Rattle.gq_setup.proofs.Losing.{few_losses}
use Rattle.gq_setup.proofs.setup.Setup.lost.Goals as goal

pub returns-clause-few : goal.returns-clause-few
returns-clause-few c = few_losses c.self.inside.plan [] c.self.inside.lost (omega arith) c.self.invariant.3
