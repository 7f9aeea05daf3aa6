use Rattle.std.proofs.Common.{length}
use Rattle.std.proofs.lemmas.Result.{on_ok_weaker}
use Rattle.gq_chunks.proofs.Needing.{wrote_on}
use Rattle.gq_chunks.proofs.needed.put_session.Goals as goal

pub returns : goal.returns
returns c lacks fit gone = on_ok_weaker c.put_others.result
    (λ others lt. wrote_on c.args.plan.now c.args.tenant (length c.args.depot.now.stock.sessions.items) c.args.facts.now.items c.put_floor.new.facts.items _ _ _ _ (c.in_ok-put_floor.ensures lacks)
    (wrote_on c.args.plan.now c.args.tenant (length c.args.depot.now.stock.sessions.items) c.put_floor.new.facts.items c.put_runs.new.facts.items _ _ _ _ (c.in_ok-put_runs.ensures lacks gone)
    (wrote_on c.args.plan.now c.args.tenant (length c.args.depot.now.stock.sessions.items) c.put_runs.new.facts.items c.put_zero.new.facts.items _ _ _ _ (c.in_ok-put_zero.ensures lacks fit) others)))
    (c.put_others.ensures lacks fit)
