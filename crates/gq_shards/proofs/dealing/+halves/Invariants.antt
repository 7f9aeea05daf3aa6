use Rattle.std.proofs.Common.{◌*◌, ◌-◌}
use Rattle.gq_shards.proofs.dealing.+halves.Given as goal

abbrev pub decreases-deal_in_threads : goal.decreases-deal_in_threads
decreases-deal_in_threads g l = 2 * l.threads

-- that of the call whose halves they are, less one
abbrev pub decreases-join+arg2 : goal.decreases-join+arg2
decreases-join+arg2 g l = 2 * l.threads - 1

abbrev pub decreases-join+arg3 : goal.decreases-join+arg3
decreases-join+arg3 g l = 2 * l.threads - 1
