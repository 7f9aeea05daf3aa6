use Rattle.std.proofs.Common.{refl}
use Rattle.std.proofs.lemmas.Result.{on_ok_weaker}
use Rattle.gq_chunks.proofs.Needing.{wrote_chunk}
use Rattle.gq_chunks.proofs.needed.put_chunk.Goals as goal

pub returns : goal.returns
returns c lacks fit = on_ok_weaker c.put_sound_fact.result
    (λ text. wrote_chunk c.args.plan.now c.args.tenant c.args.facts.now.items _ c.args.depot.now lacks c.args.place _ c.args.number c.in_ok-fact.fact c.requires.place refl fit c.in_ok-fact.ensures text c.put_sound_fact.ensures.stands)
    c.put_sound_fact.ensures.text
