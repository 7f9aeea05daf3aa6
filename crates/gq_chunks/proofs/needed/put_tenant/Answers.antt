use Rattle.std.proofs.Common.{length}
use Rattle.std.proofs.lemmas.Result.{on_ok_weaker}
use Rattle.gq_chunks.specs.Needed.{first_lacks}
use Rattle.gq_chunks.proofs.Needing.{wrote_on}
use Rattle.gq_chunks.proofs.needed.put_tenant.Goals as goal

pub returns : goal.returns
returns c sound = on_ok_weaker c.put_filled.result
    (λ filled. wrote_on c.args.plan.now c.args.tenant (length c.args.depot.now.stock.sessions.items) c.args.facts.now.items c.put_sessions.new.facts.items _ _ _ _ (c.in_ok-put_sessions.ensures (first_lacks c.args.node c.args.depot.now) sound.fit sound.gone sound.sessions_are) filled)
    c.put_filled.ensures
