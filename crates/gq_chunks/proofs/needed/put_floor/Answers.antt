use Rattle.std.proofs.Common.{◌∙◌, sym}
use Rattle.std.proofs.lemmas.Result.{on_ok_weaker}
use Rattle.gq_chunks.proofs.Needing.{wrote_floor, wrote_no_floor}
use Rattle.gq_chunks.proofs.needed.put_floor.Goals as goal

pub returns-then-floor-eq0 : goal.returns-then-floor-eq0
returns-then-floor-eq0 c lacks = wrote_no_floor c.args.plan.now c.args.tenant c.args.facts.now.items c.args.depot.now lacks c.args.place c.index.result.now c.requires.place c.index.ensures (sym c.floor-floor.ensures ∙ c.if-floor-eq0.true)

pub returns : goal.returns
returns c lacks = on_ok_weaker c.put_sound_fact.result
    (λ text. wrote_floor c.args.plan.now c.args.tenant c.args.facts.now.items _ c.args.depot.now lacks c.args.place c.floor-floor.result c.index.result.now c.requires.place c.index.ensures c.floor-floor.ensures text c.put_sound_fact.ensures.stands)
    c.put_sound_fact.ensures.text
