use Rattle.std.proofs.Common.{◌≤◌, List, length, subst}
use Rattle.gq_depot.specs.declared.gone.Gone.{Gone}
use Rattle.gq_chunks.proofs.Needing.{wrote_as, runs_all, run_more}
use Rattle.gq_chunks.proofs.needed.put_runs.Goals as goal

pub returns : goal.returns
returns c lacks fits =
    wrote_as c.args.plan.now c.args.tenant (length c.args.depot.now.stock.sessions.items) c.args.facts.now.items c.loop-gone.facts.items _ _ _ (c.loop-gone.invariant lacks fits)
    (runs_all c.args.depot.now lacks c.args.place c.loop-gone.gone-index (subst (λ (xs : List Gone). length xs ≤ c.loop-gone.gone-index) c.as_slice-gone-items.ensures.value c.loop-gone-test.false) c.if-not-depot.false)

pub loop-gone-preserved : goal.loop-gone-preserved
loop-gone-preserved c lacks fits =
    run_more c.args.plan.now c.args.tenant c.args.facts.now.items c.loop-gone.facts.items c.put_run.new.facts.items c.args.depot.now lacks c.args.place c.loop-gone.gone-index c.as_slice-gone-items.result.now (record { place = 0; run = record { first = 0; last = 0 } })
    c.as_slice-gone-items.ensures.value c.loop-gone-test.true c.if-not-depot.false fits (c.loop-gone.invariant lacks fits) (λ g its. c.in_ok-put_run.ensures lacks g its)
