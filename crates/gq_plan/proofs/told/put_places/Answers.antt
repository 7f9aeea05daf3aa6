use Rattle.gq_plan.specs.PlanWords.{place_line}
use Rattle.gq_plan.proofs.Ranges.{text_more}
use Rattle.gq_plan.proofs.told.put_places.Goals as goal

pub loop-place-preserved : goal.loop-place-preserved
loop-place-preserved c = text_more (place_line c.args.setup.now) c.args.out.now.items c.loop-place.out.items c.put_place.new.out.items c.loop-place.place c.loop-place.invariant c.in_ok-put_place.ensures
