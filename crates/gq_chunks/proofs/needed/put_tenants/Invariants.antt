-- The tenants so far were written.
use Rattle.std.proofs.Common.{ℕ, List}
use Rattle.gq_shelf.specs.Notes.{Noted}
use Rattle.gq_chunks.specs.Machines.{chunks, AreSound}
use Rattle.gq_chunks.specs.Needed.{WroteTenants}
use Rattle.gq_chunks.proofs.needed.put_tenants.Given as goal

abbrev pub invariant-loop-place : goal.invariant-loop-place
invariant-loop-place l = (lost : List ℕ) (losses : ℕ) (noted : Noted) → AreSound l.plan l.depots → WroteTenants (chunks l.plan l.node lost losses l.depots noted) l.place l.fn.facts.items l.facts.items
