-- The tenants so far.
use Rattle.std.proofs.Common.{◌≡◌, ◌-◌, ◌^◌, take, min}
use Rattle.gq_chunks.specs.Machines.{in_journals}
use Rattle.gq_chunks.proofs.machine.ChunkMachineLasting.content_bytes.Given as goal

abbrev pub invariant-loop-depot : goal.invariant-loop-depot
invariant-loop-depot g l = l.bytes ≡ min (in_journals (take l.depot-index l.depot-items)) (2 ^ 64 - 1)
