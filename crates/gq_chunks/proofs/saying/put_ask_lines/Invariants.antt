-- The asks so far.
use Rattle.std.proofs.Common.{◌≡◌, ◌++◌, take}
use Rattle.gq_chunks.specs.PeerLines.{asks_text}
use Rattle.gq_chunks.proofs.saying.put_ask_lines.Given as goal

abbrev pub invariant-loop-ask : goal.invariant-loop-ask
invariant-loop-ask l = l.out.items ≡ l.fn.out.items ++ asks_text l.plan l.from l.to l.tenant l.losses (take l.ask-index l.asks)
