-- Of so many tenants so far chunks are lacked.
use Rattle.std.proofs.Common.{◌≡◌, take}
use Rattle.std.specs.List.{count_by}
use Rattle.gq_chunks.proofs.machine.ChunkMachine.lacking.Given as goal

abbrev pub invariant-loop-depot : goal.invariant-loop-depot
invariant-loop-depot g l = l.count ≡ count_by (λ depot. depot.lacks) (take l.depot-index l.depot-items)
