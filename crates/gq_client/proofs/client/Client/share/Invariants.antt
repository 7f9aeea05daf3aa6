-- The pages so far are shared.
use Rattle.std.proofs.Common.{◌≡◌, take, length, map}
use Rattle.gq_client.specs.Looking.{seen_of}
use Rattle.gq_client.proofs.client.Client.share.Given as goal

abbrev pub invariant-loop-known : goal.invariant-loop-known
invariant-loop-known l = (length l.seen.items ≡ l.known-index) × (map seen_of l.seen.items ≡ map seen_of (take l.known-index l.self.seen.items))
