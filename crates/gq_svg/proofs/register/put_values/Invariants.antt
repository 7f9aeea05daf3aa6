use Rattle.std.proofs.Common.{◌≡◌, ◌++◌, take}
use Rattle.std.specs.List.{flat_map}
use Rattle.gq_svg.specs.Register.{value_text}
use Rattle.gq_svg.proofs.register.put_values.Given as goal

-- the values so far are appended
abbrev pub invariant-loop-value : goal.invariant-loop-value
invariant-loop-value l = l.out.items ≡ l.fn.out.items ++ flat_map (value_text l.ops) (take l.value-index l.values)
