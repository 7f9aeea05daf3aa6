use Rattle.std.proofs.Common.{arith}
use Rattle.std.proofs.lemmas.Result.{on_ok_weaker}
use Rattle.gq_chunks.proofs.Needing.{wrote_run}
use Rattle.gq_chunks.proofs.needed.put_run.Goals as goal

pub returns : goal.returns
returns c lacks before fits = on_ok_weaker c.put_sound_fact.result
    (λ text. wrote_run c.args.plan.now c.args.tenant c.args.facts.now.items _ c.args.depot.now lacks c.args.place c.floor.result before c.args.gone c.index.result.now c.requires.place c.index.ensures c.floor.ensures (omega arith) (omega arith) fits text c.put_sound_fact.ensures.stands)
    c.put_sound_fact.ensures.text
