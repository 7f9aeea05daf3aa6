-- The lines of the places so far.
use Rattle.std.proofs.Common.{◌≡◌, ◌++◌}
use Rattle.std.specs.List.{flat_map, range_with_len}
use Rattle.gq_plan.specs.PlanWords.{place_line}
use Rattle.gq_plan.proofs.told.put_places.Given as goal

abbrev pub invariant-loop-place : goal.invariant-loop-place
invariant-loop-place l = l.out.items ≡ l.fn.out.items ++ flat_map (place_line l.setup) (range_with_len 0 l.place)
