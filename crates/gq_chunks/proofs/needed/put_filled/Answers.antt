use Rattle.std.proofs.Common.{refl, length}
use Rattle.std.proofs.lemmas.Result.{on_ok_weaker}
use Rattle.gq_depot.specs.declared.fact.ChunkFact.TheVariants.{Filled}
use Rattle.gq_chunks.proofs.Needing.{wrote_one, filled_same}
use Rattle.gq_chunks.proofs.needed.put_filled.Goals as goal

pub returns : goal.returns
returns c = on_ok_weaker c.put_sound_fact.result
    (λ text. wrote_one c.args.plan.now c.args.tenant (length c.args.depot.now.stock.sessions.items) c.args.facts.now.items _ _ _ Filled text c.put_sound_fact.ensures.stands refl (filled_same c.args.node c.args.depot.now c.if-depot.false))
    c.put_sound_fact.ensures.text
