-- The runs so far were written.
use Rattle.std.proofs.Common.{length, take, Bool, false}
use Rattle.gq_depot.specs.Depots.{standing_of, is_gone}
use Rattle.gq_chunks.specs.Machines.{GoneFits}
use Rattle.gq_chunks.specs.Needed.{Wrote, before_chunks}
use Rattle.gq_chunks.proofs.needed.put_runs.Given as goal

abbrev pub invariant-loop-gone : goal.invariant-loop-gone
invariant-loop-gone l = (lacks : Bool) → GoneFits (length l.depot.stock.sessions.items) (standing_of l.depot) → Wrote l.plan l.tenant (length l.depot.stock.sessions.items) l.fn.facts.items l.facts.items (before_chunks (standing_of l.depot) lacks l.place (λ n. false)) (before_chunks (standing_of l.depot) lacks l.place (λ n. is_gone (take l.gone-index l.depot.gone.items) l.place n))
