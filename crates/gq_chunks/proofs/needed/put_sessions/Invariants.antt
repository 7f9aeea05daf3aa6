-- The sessions so far were written.
use Rattle.std.proofs.Common.{◌≡◌, length, Bool}
use Rattle.gq_desk.specs.CheckedPlan.{row_at}
use Rattle.gq_depot.specs.Depots.{standing_of, bare}
use Rattle.gq_chunks.specs.Machines.{AllFit, GoneFits}
use Rattle.gq_chunks.specs.Needed.{Wrote, before_place}
use Rattle.gq_chunks.proofs.needed.put_sessions.Given as goal

abbrev pub invariant-loop-place : goal.invariant-loop-place
invariant-loop-place l = (lacks : Bool) → AllFit (standing_of l.depot) → GoneFits (length l.depot.stock.sessions.items) (standing_of l.depot) → length l.depot.stock.sessions.items ≡ (row_at l.plan l.tenant).sessions → Wrote l.plan l.tenant (length l.depot.stock.sessions.items) l.fn.facts.items l.facts.items (bare lacks) (before_place (standing_of l.depot) lacks l.place)
