-- The lines of those who leave so far.
use Rattle.std.proofs.Common.{◌≡◌, ◌++◌}
use Rattle.std.specs.List.{flat_map, range_with_len}
use Rattle.gq_plan.specs.Leaving.{freed_text}
use Rattle.gq_plan.proofs.leaving.put_leavers.Given as goal

abbrev pub invariant-loop-tenant : goal.invariant-loop-tenant
invariant-loop-tenant l = l.out.items ≡ l.fn.out.items ++ flat_map (freed_text l.before l.after) (range_with_len 0 l.tenant)
