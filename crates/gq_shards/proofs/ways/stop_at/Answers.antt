use Rattle.std.proofs.lemmas.Bool.{ne_eqb}
use Rattle.std.proofs.lemmas.Result.{on_ok_weaker}
use Rattle.gq_shards.proofs.Going.{stops_one}
use Rattle.gq_shards.proofs.ways.stop_at.Goals as goal

pub returns-clause-stops : goal.returns-clause-stops
returns-clause-stops c =
    on_ok_weaker c.stop-2.result (λ stops k d below.
    stops_one c.args.ways.now c.args.place c.args.after c.args.mark k c.stop-2.new.self d c.index-ways-mark.result (ne_eqb c.args.mark 0 c.if-mark-eq0.false) below c.requires.mark stops) c.stop-2.ensures
