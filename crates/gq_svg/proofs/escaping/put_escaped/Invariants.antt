use Rattle.std.proofs.Common.{◌≡◌, ◌++◌, take}
use Rattle.gq_svg.specs.Escaping.{escaped}
use Rattle.gq_svg.proofs.escaping.put_escaped.Given as goal

-- the bytes so far are appended
abbrev pub invariant-loop-byte : goal.invariant-loop-byte
invariant-loop-byte l = l.out.items ≡ l.fn.out.items ++ escaped (take l.byte-index l.text)
